use Rattle.std.proofs.Common.{◌≡◌, [], ◌∷◌, refl, rules}
use Rattle.octets.specs.Octets.{octets}
use Rattle.aes.proofs.Rounds.{sum_is}
use Rattle.aes.proofs.Block.next.Goals as goal

pub returns : goal.returns
returns c =
    let constant : octets 4 c.from_be_bytes.result ≡ c.args.constant ∷ 0 ∷ 0 ∷ 0 ∷ [] = search rules in
    record {
      a = sum_is _ _ _ _ refl (sum_is _ _ _ _ c.rotated.ensures constant);
      b = sum_is _ _ _ _ refl refl;
      c = sum_is _ _ _ _ refl refl;
      d = sum_is _ _ _ _ refl refl;
    }
