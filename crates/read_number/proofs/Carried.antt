-- Proves how a number is read group by group: the groups left, added on top of those read, give the number at its start. The weight of the next group
-- is above the value of those read.
-- Assumes nothing.
use Prim.Native.Nat.{ℕ, suc, ◌+◌, ◌-◌, ◌*◌, ◌^◌, ◌<◌, ◌≤◌}
use mathlib.Core.Path.{◌≡◌, refl, sym, ap, ◌∙◌}
use mathlib.Core.Logic.{◌⊎◌, inl, inr}
use mathlib.Core.Bool.{true, false}
use mathlib.Core.List.{List}
use native.Mathlib.Omega.{arith}
use native.Mathlib.Nat.{mul-le-mul_left, mul-add, mul_assoc, add_assoc}
use lib.Dec.{eqb}
use lib.ListN.{length, get_or}
use lib.Pow.{pow-add}
use borrow.Author.Tests.{eq-eqb, ne_eqb}
use Rattle.papers.specs.Bounds.{max_groups}
use Rattle.papers.specs.Numbers.{over, last_group, read_from, number_read_from, Number}
use Rattle.papers.specs.declared.NumberFault.TheVariants.{Ended, TooLong, NotShortest}
use Rattle.std.specs.Prelude.{Ok, Err}
use Rattle.bytes_laws.proofs.NumberReading.{read-end, read-long, read-last, read_more, Shown, shown-some, last-shown}

-- adds a number found at weight w on top of low
abbrev pub carry : ℕ → ℕ → Number → Number
carry low w (Ok (v, next)) = Ok (low + w * v, next)
carry low w (Err fault) = Err fault

carry_over : (low w group : ℕ) (r : Number) → carry low w (over group r) ≡ carry (low + w * group) (w * 128) r
unfolding over
carry_over low w group (Ok (v, n)) = ap (λ (x : ℕ). Ok (x, n)) (simp (mul-add, mul_assoc, add_assoc))
carry_over low w group (Err fault) = refl

carry-none : (r : Number) → carry 0 1 r ≡ r
carry-none (Ok (v, n)) = ap (λ (x : ℕ). Ok (x, n)) (omega arith)
carry-none (Err fault) = refl

-- the groups before i of the number at `at` make low, the next has weight w, and k may still come
pub record Carried (s : List ℕ) (at i low w k : ℕ) : Type 0 where
  pub found : carry low w (read_from k (eqb i at) s i) ≡ number_read_from s at
  pub passed : at ≤ i
  pub few : k ≤ max_groups
  pub weight : w ≡ 2 ^ (7 * (max_groups - k))
  pub small : low < w

pub carried-start : (s : List ℕ) (at : ℕ) → Carried s at at 0 1 max_groups
unfolding number_read_from
carried-start s at =
    record {
      found = rw (eq-eqb at at refl) (carry-none (read_from max_groups true s at));
      passed = omega arith;
      few = omega arith;
      weight = refl;
      small = omega arith;
    }

-- the group at i decides
ends : {s : List ℕ} {at i low w k : ℕ} (n : Number) → Carried s at i low w k → read_from k (eqb i at) s i ≡ n → carry low w n ≡ number_read_from s at
ends {low = low} {w = w} n r e = ap (carry low w) (sym e) ∙ r.found

module _ {s : List ℕ} {at i low w k : ℕ} (r : Carried s at i low w k) where
  pub stop-end : length s ≤ i → Err Ended ≡ number_read_from s at
  stop-end h = ends (Err Ended) r (read-end k (eqb i at) s i h)

  module _ (there : i < length s) where
    pub stop-long : k ≡ 0 → Err TooLong ≡ number_read_from s at
    stop-long z = ends (Err TooLong) r (rw z (read-long (eqb i at) s i there))

    module _ (b : ℕ) (byte : b ≡ get_or s i 0) (left : 0 < k) where
      one_less : k ≡ suc (k - 1)
      one_less = omega arith

      last_of : b < 128 → read_from k (eqb i at) s i ≡ last_group (eqb i at) b i
      last_of h = rw (one_less, byte) (read-last (eqb i at) s i there (k - 1) (omega arith))

      pub stop-zero : b ≡ 0 → at < i → Err NotShortest ≡ number_read_from s at
      unfolding last_group
      stop-zero z l = ends (Err NotShortest) r (last_of (omega arith) ∙ rw (z, ne_eqb i at (λ e. omega arith)))

      pub stop-value : b < 128 → (i ≡ at) ⊎ (0 < b) → Ok (low + w * b, i + 1) ≡ number_read_from s at
      stop-value h o = ends (Ok (b, i + 1)) r (last_of h ∙ last-shown (eqb i at) b i (shown o))
        where
          shown : (i ≡ at) ⊎ (0 < b) → Shown (eqb i at) b
          shown (inl e) = rw (eq-eqb i at e) tt
          shown (inr p) = shown-some (eqb i at) b p

      pub turn : 128 ≤ b → b < 256 → Carried s at (i + 1) (low + w * (b - 128)) (w * 128) (k - 1)
      turn g l =
          let first : eqb (i + 1) at ≡ false = let p = r.passed in ne_eqb (i + 1) at (λ e. omega arith) in
          let m : read_from k (eqb i at) s i ≡ over (b - 128) (read_from (k - 1) (eqb (i + 1) at) s (i + 1)) =
          ap (λ (n : ℕ). read_from n (eqb i at) s i) one_less ∙ rw (byte, first) (read_more (eqb i at) s i there (k - 1) (omega arith)) in
          let f = r.few in
          let n : b - 128 ≤ 127 = omega arith in
          let u = mul-le-mul_left w n in
          let z = r.small in
          record {
            found = sym (carry_over low w (b - 128) (read_from (k - 1) (eqb (i + 1) at) s (i + 1))) ∙ ends _ r m;
            passed = let p = r.passed in omega arith;
            few = omega arith;
            weight = ap (λ (n : ℕ). n * 128) r.weight ∙ sym (pow-add 2 (7 * (max_groups - k)) 7) ∙ ap (λ (n : ℕ). 2 ^ n) (omega arith);
            small = omega arith;
          }
