-- Proves facts of the lists of the columns 1 to m, one behind the other: how one more column adds to them, and where the list of a column
-- is.
-- Assumes nothing.
use Prim.Native.Nat.{ℕ, zero, suc, ◌+◌, ◌-◌, ◌<◌, ◌≤◌}
use mathlib.Core.Path.{◌≡◌, refl, sym, ap, ◌∙◌}
use mathlib.Core.Logic.{⊎_elim}
use mathlib.Core.List.{List, [], ◌∷◌, ◌++◌, append-nil}
use native.Mathlib.Omega.{arith}
use native.Mathlib.Nat.{le-suc_iff}
use lib.ListN.{length, take, drop, length-append}
use lib.Seq.{take_all, take-append-le, take-take, take-add, drop_at}
use Rattle.papers.specs.Lists.{flat, starts_counted_from}
use Rattle.papers.specs.Key.{lists_of}
use Rattle.list_laws.specs.Parts.{part}
use Rattle.list_laws.proofs.Stores.{flat_append, starts_more}
use Rattle.job_laws.proofs.Laid.{lists-more}

module _ (B : ℕ → List ℕ) where
  pub flat-more : (m : ℕ) → flat (lists_of (suc m) B) ≡ flat (lists_of m B) ++ B (suc m)
  unfolding flat
  flat-more m = rw (lists-more B m, flat_append (lists_of m B) (B (suc m) ∷ []), append-nil (B (suc m)))

  pub length_more : (m : ℕ) → length (flat (lists_of (suc m) B)) ≡ length (flat (lists_of m B)) + length (B (suc m))
  length_more m = ap length (flat-more m) ∙ length-append (flat (lists_of m B)) (B (suc m))

  pub starts-next : (m : ℕ) → starts_counted_from 0 (lists_of (suc m) B) ≡ starts_counted_from 0 (lists_of m B) ++ (length (flat (lists_of (suc m) B)) ∷ [])
  starts-next m =
      let e : 0 + length (flat (lists_of m B)) + length (B (suc m)) ≡ length (flat (lists_of (suc m) B)) = omega (arith, length_more m) in
      rw (lists-more B m, starts_more 0 (lists_of m B) (B (suc m)), ← lists-more B m, e)

  pub length-grows : (k m : ℕ) → k ≤ m → length (flat (lists_of k B)) ≤ length (flat (lists_of m B))
  length-grows k zero h = let e : k ≡ 0 = omega arith in rw e (omega arith)
  length-grows k (suc m) h =
      ⊎_elim
      (λ (l : k ≤ m). omega (arith, length-grows k m l, length_more m))
      (λ (l : k ≡ suc m). rw l (omega arith))
      (le-suc_iff.0 h)

  first_part : (k m : ℕ) → k ≤ m → take (length (flat (lists_of k B))) (flat (lists_of m B)) ≡ flat (lists_of k B)
  first_part k zero h = let e : k ≡ 0 = omega arith in rw e (take_all (length (flat (lists_of 0 B))) (flat (lists_of 0 B)) (omega arith))
  first_part k (suc m) h =
      ⊎_elim
      (λ (l : k ≤ m). rw (flat-more m, take-append-le (length (flat (lists_of k B))) (flat (lists_of m B)) (B (suc m)) (length-grows k m l))
      (first_part k m l))
      (λ (l : k ≡ suc m). rw l (take_all (length (flat (lists_of (suc m) B))) (flat (lists_of (suc m) B)) (omega arith)))
      (le-suc_iff.0 h)

  -- if rows begins with the lists of m columns, the list of column k + 1 is between the ends of k and of k + 1
  pub list_at : (k m : ℕ) (rows : List ℕ) → k < m → take (length (flat (lists_of m B))) rows ≡ flat (lists_of m B)
      → part (length (flat (lists_of k B))) (length (flat (lists_of (suc k) B))) rows ≡ B (suc k)
  list_at k m rows h e =
      let s = length_more k in
      let z : length (flat (lists_of (suc k) B)) - length (flat (lists_of k B)) ≡ length (B (suc k)) = omega arith in
      let whole : take (length (flat (lists_of k B)) + length (B (suc k))) rows ≡ flat (lists_of k B) ++ B (suc k) = rw (← s, ← flat-more k)
      (at-start (suc k) h) in
      let split : flat (lists_of k B) ++ take (length (B (suc k))) (drop (length (flat (lists_of k B))) rows) ≡ flat (lists_of k B) ++ B (suc k) =
      rw (take-add (length (flat (lists_of k B))) (length (B (suc k))) rows, at-start k (omega arith)) at whole in
      rw z (sym (behind (take (length (B (suc k))) (drop (length (flat (lists_of k B))) rows))) ∙ ap (drop (length (flat (lists_of k B)))) split
      ∙ behind (B (suc k)))
    where
      at-start : (i : ℕ) → i ≤ m → take (length (flat (lists_of i B))) rows ≡ flat (lists_of i B)
      at-start i l =
          sym (take-take (length (flat (lists_of i B))) (length (flat (lists_of m B))) rows (length-grows i m l))
          ∙ ap (take (length (flat (lists_of i B)))) e
          ∙ first_part i m l

      behind : (l : List ℕ) → drop (length (flat (lists_of k B))) (flat (lists_of k B) ++ l) ≡ l
      behind l = drop_at (flat (lists_of k B)) l (length (flat (lists_of k B))) refl
