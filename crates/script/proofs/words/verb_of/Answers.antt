use Rattle.std.proofs.Common.{◌≡◌, ℕ, List, length, codes, sym, ap, arith, rules}
use Rattle.std.proofs.lemmas.Slice.Eq.{HasBytesAt, text_from_reads}
use Rattle.script.specs.Words.{verb_of}
use Rattle.script.proofs.words.verb_of.Goals as goal

-- octets that are read as those of a word name what the word names
spelled : (octets word : List ℕ) → length octets ≡ length word → HasBytesAt octets 0 word → verb_of word ≡ verb_of octets
spelled octets word n h = sym (ap verb_of (text_from_reads octets word n h))

pub returns-in-choose : goal.returns-in-choose
returns-in-choose c = spelled c.args.word.now (codes "choose") (omega arith) (search rules)

pub returns-in-report : goal.returns-in-report
returns-in-report c = spelled c.args.word.now (codes "report") (omega arith) (search rules)

pub returns-in-command : goal.returns-in-command
returns-in-command c = spelled c.args.word.now (codes "command") (omega arith) (search rules)
