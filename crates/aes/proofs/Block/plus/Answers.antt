use Rattle.std.proofs.Common.{[], ◌∷◌, refl}
use Rattle.aes.specs.Words.{block_octets}
use Rattle.aes.proofs.Xors.{joined_xors}
use Rattle.aes.proofs.Block.plus.Goals as goal

pub returns : goal.returns
unfolding block_octets
returns c =
    let a = c.args.self in
    let b = c.args.other in
    joined_xors 4 (a.a ∷ a.b ∷ a.c ∷ a.d ∷ []) (b.a ∷ b.b ∷ b.c ∷ b.d ∷ []) refl
