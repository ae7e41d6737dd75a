use Rattle.std.proofs.Common.{ℕ, ◌-◌, List, length, take, drop, ap, ◌∙◌}
use Rattle.octets.proofs.Numbers.{octets_std, last_of}
use Rattle.octets.proofs.write_number.Goals as goal

pub returns : goal.returns
returns c =
    let n = length c.args.out.now in
    c.copy_from_slice.ensures.after ∙ ap (λ (l : List ℕ). take (4 - (4 - n)) (drop (4 - n) l)) (c.to_be_bytes-all.ensures ∙ octets_std 4 c.args.c)
    ∙ last_of 4 n c.args.c c.requires
