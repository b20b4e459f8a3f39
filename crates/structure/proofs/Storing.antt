-- Proves that storing one column more keeps the state: its list goes behind the others, its end is written, and it joins the children of its parent.
-- Assumes nothing.
use Prim.Native.Nat.{ℕ, suc, ◌+◌, ◌-◌, ◌<◌, ◌≤◌}
use mathlib.Core.Path.{◌≡◌, refl, ap, ◌∙◌}
use mathlib.Core.Logic.{⊎_elim}
use mathlib.Core.List.{List, [], ◌∷◌, ◌++◌}
use native.Mathlib.Omega.{arith}
use native.Mathlib.Nat.{le-suc_iff}
use native.Mathlib.Numerals.{add-one}
use lib.ListN.{length, get_or, take, drop, set, length-set, length-replicate}
use lib.Seq.{sets, sets-eq, length-sets, take_at, get_or-set_same, get_or-set_other}
use Rattle.std.specs.List.{slice_get}
use Rattle.std.specs.Option.{unwrap_or}
use Rattle.papers.specs.Lists.{head0, flat, zeros}
use Rattle.papers.specs.Job.{Pattern, Below}
use Rattle.papers.specs.Fill.{R}
use Rattle.papers.specs.Tree.{parent}
use Rattle.list_laws.proofs.Stores.{zero-at}
use Rattle.job_laws.proofs.Laid.{lists-none}
use Rattle.fill_laws.proofs.Parents.{parent-within}
use Rattle.column_laws.proofs.Families.{flat-more, length_more}
use Rattle.child_lists.specs.Marks.{Changed, Fresh}
use Rattle.column_laws.proofs.Chains.{chain-ext}
use Rattle.column_list.specs.Hung.{hung}
use Rattle.column_list.specs.Stored.{rows_to, ListsStored}
use Rattle.column_list.proofs.Hung.{hung-none, hung-from}
use Rattle.structure.specs.Hanging.{hanging}
use Rattle.structure.specs.Listed.{Storable, Stores}
use Rattle.structure.proofs.Hanging.{Chains, hanging-else, length-hanging, hanging-chains}

-- ---- the least row

pub least-first : (l : List ℕ) → unwrap_or (slice_get l 0) 0 ≡ head0 l
unfolding head0
least-first [] = refl
least-first (x ∷ xs) = refl

pub parent_is : (A : Pattern) (j : ℕ) → head0 (R A j) ≡ parent A j
unfolding parent
parent_is A j = refl

-- ---- before the first column: no list, and no column is hung

pub stored-none : {n : ℕ} (A : Pattern) (fs fr w w₁ : List ℕ) → n < length fs → get_or fs 0 0 ≡ 0 → n + n + n < length w → w₁ ≡ zeros w
    → ListsStored n 0 A fs fr w₁
unfolding flat
stored-none A fs fr w w₁ long z hw e =
    record {
      rows_fit = rw (lists-none (R A)) (omega arith);
      rows_are = rw (lists-none (R A));
      starts-long = long;
      starts-are = λ k h. first k (omega arith);
      chains = λ j a b. rw (hung-none A j, e) (zero-at w j);
      fresh = λ q h. rw e (omega (arith, zero-at w q));
      work-long = rw (e, length-replicate) hw;
    }
  where
    first : (k : ℕ) → k ≡ 0 → get_or fs k 0 ≡ length (rows_to A k)
    first k y = rw (y, lists-none (R A)) z

-- ---- column m + 1

module _ {n m : ℕ} {A : Pattern} {fs fr w : List ℕ} (good : Below n A) (st : ListsStored n m A fs fr w) (mn : m < n) (list : List ℕ)
    (is : list ≡ R A (m + 1)) where
  ends : get_or fs m 0 + length list ≡ length (rows_to A (suc m))
  ends = omega (arith, st.starts-are m (omega arith), length_more (R A) m, ap length (rw add-one at is))

  -- the list does not fit
  pub lacks : length fr - get_or fs m 0 < length list → length fr < length (rows_to A (suc m))
  lacks h = omega (arith, ends)

  -- the list fits
  module _ (h : length list ≤ length fr - get_or fs m 0) where
    fits : get_or fs m 0 + length list ≤ length fr
    fits = omega (arith, st.starts-are m (omega arith), st.rows_fit)

    head-is : head0 list ≡ parent A (suc m)
    head-is = rw (is, add-one) (parent_is A (suc m))

    -- work after the list was gathered
    module _ (w₁ : List ℕ) (c : Changed n (m + 1) w w₁) (lw : length w₁ ≡ length w) where
      pub storable : (p : List ℕ) → n ≤ length p → Storable n m list p fs fr w₁
      storable p lp =
          record {
            column = mn;
            parent-most = rw head-is (parent-within good (suc m));
            parents-long = lp;
            starts-long = st.starts-long;
            rows_fit = fits;
            work-long = omega (arith, st.work-long);
          }

      -- marks change no chain
      chains : Chains A n m w₁
      chains j a b =
          rw (c.links j (omega arith))
          (chain-ext w w₁ n (get_or w j 0) (hung A m j) (λ x t. c.links (n + x) (omega (arith, (hung-from A m j x t).most))) (st.chains j a b))

      fresh : Fresh n (suc m) w₁
      fresh p l = ⊎_elim (λ (e : get_or w₁ p 0 ≡ get_or w p 0). omega (arith, st.fresh p l)) (λ (e : get_or w₁ p 0 ≡ m + 1). omega arith) (c.marks p l)

      -- stores one column more
      pub stored_on : {p p' fs' fr' w₂ : List ℕ} → Stores n m list p fs fr w₁ p' fs' fr' w₂ → ListsStored n (suc m) A fs' fr' w₂
      stored_on {p} {p'} {fs'} {fr'} {w₂} s =
          record {
            rows_fit = rw rows-now (omega (arith, length-sets fr (length (rows_to A m)) (R A (suc m)), ends, fits));
            rows_are = rw rows-now rows;
            starts-long = rw (s.starts-are, length-set) st.starts-long;
            starts-are = λ k l. rw starts-now (starts k l);
            chains = rw work-now (hanging-chains A n m w₁ mn (omega (arith, st.work-long)) (parent-within good (suc m)) chains);
            fresh = λ q l. rw (
              work-now,
              hanging-else n (parent A (suc m)) (suc m) w₁ q (λ e. omega (arith, parent-within good (suc m)))
                  (λ e. omega arith),
            ) (fresh q l);
            work-long = rw (work-now, length-hanging n (parent A (suc m)) (suc m) w₁, lw) st.work-long;
          }
        where
          rows-now : fr' ≡ sets fr (length (rows_to A m)) (R A (suc m))
          rows-now = rw (← add-one, ← is, ← st.starts-are m (omega arith)) s.rows_are

          starts-now : fs' ≡ set fs (suc m) (length (rows_to A (suc m)))
          starts-now = rw (← ends, ← add-one) s.starts-are

          work-now : w₂ ≡ hanging n (parent A (suc m)) (suc m) w₁
          work-now = rw (← head-is, ← add-one) s.work-is

          rows : take (length (rows_to A (suc m))) (sets fr (length (rows_to A m)) (R A (suc m))) ≡ rows_to A (suc m)
          rows =
              let e : sets fr (length (rows_to A m)) (R A (suc m)) ≡ rows_to A (suc m) ++ drop (length (rows_to A m) + length (R A (suc m))) fr =
              sets-eq (R A (suc m)) fr (length (rows_to A m)) (omega (arith, ends, fits, length_more (R A) m)) ∙ rw
              (flat-more (R A) m, st.rows_are) in
              rw e (take_at (rows_to A (suc m)) (drop (length (rows_to A m) + length (R A (suc m))) fr) (length (rows_to A (suc m))) refl)

          starts : (k : ℕ) → k ≤ suc m → get_or (set fs (suc m) (length (rows_to A (suc m)))) k 0 ≡ length (rows_to A k)
          starts k l =
              ⊎_elim
              (λ (u : k ≤ m). get_or-set_other fs (suc m) k (length (rows_to A (suc m))) 0 (λ e. omega arith) ∙ st.starts-are k u)
              (λ (u : k ≡ suc m). rw u (get_or-set_same fs (suc m) (length (rows_to A (suc m))) 0 (omega (arith, st.starts-long))))
              (le-suc_iff.0 l)
