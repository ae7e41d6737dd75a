use Rattle.std.proofs.Common.{◌≡◌, length, refl, arith, rules}
use Rattle.aes.specs.declared.Block.{Block}
use Rattle.aes.specs.Cipher.{add_round_key, rounds, cipher}
use Rattle.aes.specs.Words.{block_octets, words_of}
use Rattle.aes.proofs.Rounds.{rounds_more}
use Rattle.aes.proofs.Expansion.{key_at, middle_length, middle_key}
use Rattle.aes.proofs.Schedule.encrypt.Goals as goal

pub loop-key-init : goal.loop-key-init
unfolding rounds
loop-key-init c = refl

pub loop-key-preserved : goal.loop-key-preserved
loop-key-preserved c =
    let none : Block = record { a = 0; b = 0; c = 0; d = 0 } in
    let long : length c.args.self.now.keys ≡ 11 = search rules in
    let n = middle_length c.args.self.now.keys long in
    let key = middle_key c.args.self.now c.loop-key.key-index none long (omega arith) in
    rounds_more (words_of c.args.self.now) (block_octets c.plus-state.result) _ _ _ _ c.loop-key.key-index c.loop-key.invariant c.mixed.ensures
    key c.plus-state-in-loop-key.ensures

pub returns : goal.returns
unfolding cipher add_round_key
returns c =
    let none : Block = record { a = 0; b = 0; c = 0; d = 0 } in
    let long : length c.args.self.now.keys ≡ 11 = search rules in
    let m = middle_length c.args.self.now.keys long in
    let n : c.loop-key.key-index ≡ 9 = omega arith in
    let first = key_at c.args.self.now 0 none (omega arith) in
    let last = key_at c.args.self.now 10 none (omega arith) in
    cc
