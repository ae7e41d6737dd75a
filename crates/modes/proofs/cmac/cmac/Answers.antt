use Rattle.std.proofs.Common.{◌≡◌, ◌/◌, ◌++◌, sym, ◌∙◌, arith, length-append}
use Rattle.modes.proofs.Chains.{chained_none, chained_more, cmac_is}
use Rattle.modes.proofs.cmac.cmac.Goals as goal

pub loop-i-init : goal.loop-i-init
loop-i-init g c = c.zero_block-state.ensures ∙ sym (chained_none (g.C.BlockCipher.ciph c.args.cipher.now) (c.args.head.now ++ c.args.message.now))

pub loop-i-preserved : goal.loop-i-preserved
loop-i-preserved g c =
    let n = length-append c.args.head.now c.args.message.now in
    let s = c.saturating_sub-before.ensures in
    chained_more (g.C.BlockCipher.ciph c.args.cipher.now) (c.args.head.now ++ c.args.message.now) _ _ _ _ c.loop-i.i (omega arith)
    c.loop-i.invariant c.block_from.ensures c.plus.ensures c.encrypt-state.ensures

pub returns : goal.returns
returns g c =
    let text = c.args.head.now ++ c.args.message.now in
    let n = length-append c.args.head.now c.args.message.now in
    let s = c.saturating_sub-before.ensures in
    let before = c.saturating_sub-before.result / 16 in
    let at : c.loop-i.i ≡ before = omega arith in
    let state = rw at at c.loop-i.invariant in
    let key = rw c.len-len.ensures at c.subkey.ensures in
    cmac_is (g.C.BlockCipher.ciph c.args.cipher.now) text _ _ _ _ _ _ before (omega arith) state c.block_from-2.ensures key
    c.plus-last.ensures c.plus-2.ensures c.encrypt.ensures
