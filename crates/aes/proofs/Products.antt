-- A product of octets is an octet. Assumes nothing.
use Rattle.std.proofs.Common.{◌≡◌, ℕ, zero, suc, ◌+◌, ◌-◌, ◌*◌, ◌/◌, ◌%◌, ◌^◌, ◌<◌, cond, eqb, sym, subst, inl, inr, arith}
use lib.Bits.{bit_xor, xor_lt, xor_block}
use Rattle.std.proofs.lemmas.Bool.Decides.{leb_tells, eqb_tells}
use Rattle.aes.specs.Field.{xtime, product, product_by}

pub xtime_lt : (a : ℕ) → a < 256 → xtime a < 256
unfolding xtime
xtime_lt a h = elim (leb_tells (suc a) 128) [
  | inl p ↦ rw p.0 (omega arith)
  | inr p ↦
      let r : 2 * a ≡ 1 * 2 ^ 8 + (2 * a - 256) = omega arith in
      let b = xor_block 8 1 1 (2 * a - 256) 0x1b (omega arith) (omega arith) in
      let l = xor_lt 8 (2 * a - 256) 0x1b (omega arith) (omega arith) in
      rw p.0 (subst (λ n. bit_xor n 0x11b < 256) (sym r) (omega arith))
]

product_by_lt : (n a b : ℕ) → a < 256 → product_by n a b < 256
unfolding product_by
product_by_lt zero a b h = omega arith
product_by_lt (suc n) a b h =
    let r = product_by_lt n (xtime a) (b / 2) (xtime_lt a h) in
    let t : cond (eqb (b % 2) 1) a 0 < 256 = elim (eqb_tells (b % 2) 1) [ inl p ↦ rw p.0 h | inr p ↦ rw p.0 (omega arith) ] in
    xor_lt 8 (cond (eqb (b % 2) 1) a 0) (product_by n (xtime a) (b / 2)) t r

pub product_lt : (a b : ℕ) → a < 256 → product a b < 256
unfolding product
product_lt a b h = product_by_lt 8 a b h
