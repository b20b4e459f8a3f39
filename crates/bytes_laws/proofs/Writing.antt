-- Proves how numbers are written one after the other into a slice. At every point, writing what is left completes the whole; so one more
-- number is one rewriting, and when nothing is left the whole is written.
-- Assumes nothing.
use Prim.Native.Nat.{ℕ, ◌+◌, ◌*◌, ◌≤◌}
use mathlib.Core.Path.{◌≡◌, ap, ◌∙◌}
use mathlib.Core.List.{List, [], ◌∷◌, ◌++◌}
use native.Mathlib.Omega.{arith}
use lib.ListN.{length, length-append}
use Rattle.papers.specs.Bounds.{max_groups}
use Rattle.papers.specs.Numbers.{bytes_of, encode}
use Rattle.list_laws.specs.Wrote.{Wrote}
use Rattle.list_laws.proofs.Writing.{Writes, writes-part}
use Rattle.bytes_laws.proofs.Numbers.{bytes-length, encode-append}

-- the bytes of numbers are at most max_groups times as many as the numbers
pub encode-short : (xs : List ℕ) → length (encode xs) ≤ max_groups * length xs
unfolding encode
encode-short [] = omega arith
encode-short (x ∷ xs) = omega (arith, encode-short xs, (bytes-length x).1, length-append (bytes_of x) (encode xs))

-- of the numbers `whole`, whose bytes go into d₀ from `at` on, xs are left at place k: storing their bytes there in d gives what storing
-- all gives
pub encode-none : {xs : List ℕ} → xs ≡ [] → encode xs ≡ []
unfolding encode
encode-none e = ap encode e

module _ {whole d₀ : List ℕ} {at : ℕ} where
  -- one more number is written
  pub writes-number : {xs ys d e : List ℕ} {x k m : ℕ} → Writes whole d₀ at (encode xs) d k → xs ≡ x ∷ ys → Wrote (bytes_of x) d e k m
      → Writes whole d₀ at (encode ys) e m
  unfolding encode
  writes-number w f p = writes-part w p (ap encode f)

  -- numbers more
  pub writes-numbers : {xs d e : List ℕ} {k m : ℕ} (zs ys : List ℕ) → Writes whole d₀ at (encode xs) d k → xs ≡ zs ++ ys → Wrote (encode zs) d e k m
      → Writes whole d₀ at (encode ys) e m
  writes-numbers zs ys w f p = writes-part w p (ap encode f ∙ encode-append zs ys)

-- no place reached is far behind the first
pub writes-near : (xs : List ℕ) {d₀ rest d : List ℕ} {at k : ℕ} → Writes (encode xs) d₀ at rest d k → k ≤ at + max_groups * length xs
writes-near xs w = omega (arith, w.place, encode-short xs)
