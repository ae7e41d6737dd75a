use Rattle.aes.specs.Words.{words_of}
use Rattle.aes_suite.proofs.Meanings.{cipher_is}
use Rattle.aes_suite.proofs.AesSuite.encipher.Goals as goal

pub returns : goal.returns
returns c =
    cipher_is c.args.keys c.args.inputs (words_of c.new-schedule.result) c.start_of.result c.args.part.now _ c.new-schedule.ensures
    c.start_of.ensures c.encipher.ensures
