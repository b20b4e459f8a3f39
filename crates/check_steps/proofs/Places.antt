-- Proves what a least place is as an Option: 0 is none, and any other place is that place.
-- Assumes nothing.
use Rattle.std.proofs.Common.{ℕ, suc, ◌+◌, ◌≡◌, sym, ap, ◌∙◌, Some, None, arith}
use Rattle.refusals.specs.Answers.{place_if_any}

pub no-place : {x : ℕ} → x ≡ 0 → None ≡ place_if_any x
no-place e = sym (ap place_if_any e)

pub place-at : {x i : ℕ} → x ≡ suc i → Some (i + 1) ≡ place_if_any x
place-at {x} {i} e = let next : i + 1 ≡ suc i = omega arith in ap (λ k. Some k) next ∙ sym (ap place_if_any e)
