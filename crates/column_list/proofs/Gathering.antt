-- Proves that joining the pattern rows with what one child hands on, and then with what the others hand on, gives R(m + 1), whichever child comes
-- first.
-- Assumes nothing.
use Prim.Native.Nat.{ℕ, zero, suc, ◌+◌, ◌-◌, ◌<◌, ◌≤◌}
use mathlib.Core.Path.{◌≡◌, refl, ap}
use mathlib.Core.Logic.{◌⊎◌, inl, inr}
use mathlib.Core.List.Memᴰ
use mathlib.Core.List.{List, ◌∷◌}
use native.Mathlib.Omega.{arith}
use lib.ListN.{length, get_or, drop}
use Rattle.papers.specs.Lists.{◌∈◌, Asc, head0}
use Rattle.papers.specs.Job.{Pattern, Below, column_of}
use Rattle.papers.specs.Fill.{R}
use Rattle.papers.specs.Tree.{parent}
use Rattle.fill_laws.specs.Rows.{FromChild}
use Rattle.list_laws.proofs.Ascending.{asc-above, drop_head}
use Rattle.fill_laws.proofs.Fill.{R-asc}
use Rattle.fill_laws.proofs.Parents.{child-cons, parent_above}
use Rattle.fill_laws.proofs.Children.{R-children}
use Rattle.column_laws.specs.Chains.{Chain}
use Rattle.column_laws.proofs.Columns.{tested-below}
use Rattle.list_laws.proofs.Parts.{part-rest}
use Rattle.column_laws.proofs.Chains.{desc-first}
use Rattle.column_laws.proofs.Families.{length_more, length-grows, list_at}
use Rattle.linked_children.specs.Children.{handed_rows, StoredChild, Siblings}
use Rattle.child_lists.specs.Joining.{Makes}
use Rattle.column_list.specs.Hung.{hung}
use Rattle.column_list.specs.Stored.{rows_to, ListsStored, Next}
use Rattle.column_list.proofs.Hung.{hung-from, hung-into, hung-desc}

-- ---- the list of a column as it is stored

module _ {n m : ℕ} {A : Pattern} {fs fr w : List ℕ} (st : ListsStored n m A fs fr w) where
  -- the list of a column with rows
  pub record Found (c : ℕ) : Type 0 where
    pub stands : StoredChild c fs fr
    pub hands : handed_rows fs fr c ≡ drop 1 (R A c)

  pub found : (c : ℕ) → 1 ≤ c → c ≤ m → m < n → 0 < length (R A c) → Found c
  found zero a b mn h = absurd (omega arith)
  found (suc k) a b mn h =
      let z : suc k - 1 ≡ k = omega arith in
      let s = st.starts-are k (omega arith) in
      let e = st.starts-are (suc k) b in
      let l = length_more (R A) k in
      let g = length-grows (R A) (suc k) m b in
      let f = st.rows_fit in
      let o = st.starts-long in
      let i : length (rows_to A k) < length (rows_to A (suc k)) = omega arith in
      let j : length (rows_to A (suc k)) ≤ length fr = omega arith in
      record {
        stands = record { child = record { first = a; started = omega arith; begins = rw (z, s, e) i }; ends = rw e j };
        hands = rw (z, s, e, part-rest (length (rows_to A k)) (length (rows_to A (suc k))) fr i j)
            (ap (drop 1) (list_at (R A) k m fr b st.rows_are));
      }

no-parent : (A : Pattern) → parent A 0 ≡ 0
unfolding parent R head0
no-parent A = refl

-- ---- the children of column m + 1

module _ {n m : ℕ} {starts rows fs fr w : List ℕ} (g : Next n m starts rows fs fr w) where
  abbrev A : Pattern
  A = column_of starts rows

  -- rows that are strictly below the diagonal
  pub below : Below n (column_of starts rows)
  below = tested-below g.tested

  pub chain : Chain w n (get_or w (m + 1) 0) (hung A m (m + 1))
  chain = g.stored.chains (m + 1) (omega arith) (omega (arith, g.column))

  cons : (d : ℕ) → parent A d ≡ m + 1 → R A d ≡ (m + 1) ∷ drop 1 (R A d)
  cons d e = child-cons A (m + 1) d (omega arith) e

  pub found-child : (d : ℕ) → d ∈ hung A m (m + 1) → Found g.stored d
  found-child d t =
      let h = hung-from A m (m + 1) d t in
      let l = ap length (cons d h.parent_is) in
      found g.stored d h.first h.most g.column (omega arith)

  pub siblings : Siblings n (get_or w (m + 1) 0) fs w (hung A m (m + 1))
  siblings =
      record {
        chain = chain;
        desc = (desc-first w n (get_or w (m + 1) 0) (suc m) (hung A m (m + 1)) chain (hung-desc A m (m + 1)) (omega arith)).1;
        each = λ d t. (found-child d t).stands.child;
        most = λ d t. omega (arith, (hung-from A m (m + 1) d t).most, g.column);
        links = omega (arith, g.stored.work-long);
      }

  -- the pattern rows and what the children hand on make R(m + 1), from any list between the two on
  pub makes : (acc : List ℕ) → Asc (m + 1) acc → ((i : ℕ) → i ∈ A (m + 1) → i ∈ acc) → ((i : ℕ) → i ∈ acc → i ∈ R A (m + 1))
      → Makes (m + 1) (handed_rows fs fr) (hung A m (m + 1)) acc (R A (m + 1))
  makes acc s own into =
      record {
        asc = s;
        asc-whole = R-asc below (m + 1);
        asc-hands = λ d t. rw (found-child d t).hands (hands-asc d (hung-from A m (m + 1) d t).parent_is);
        acc-in = into;
        hands_in = λ d i t u. hands_in d i (hung-from A m (m + 1) d t).parent_is (rw (found-child d t).hands at u);
        made = λ i t. made i ((R-children below (m + 1) i).0 t);
      }
    where
      hands-asc : (d : ℕ) → parent A d ≡ m + 1 → Asc (m + 1) (drop 1 (R A d))
      hands-asc d e = let a : Asc d ((m + 1) ∷ drop 1 (R A d)) = rw (cons d e) at (R-asc below d) in a.1

      hands_in : (d i : ℕ) → parent A d ≡ m + 1 → i ∈ drop 1 (R A d) → i ∈ R A (m + 1)
      hands_in d i e u =
          let row : i ∈ R A d = rw (cons d e) (Memᴰ.tail u) in
          (R-children below (m + 1) i).1
          (inr (record { child = d; child-of = e; row = row; above = asc-above (m + 1) (drop 1 (R A d)) (hands-asc d e) u }))

      hung-child : (d : ℕ) → parent A d ≡ m + 1 → d ∈ hung A m (m + 1)
      hung-child d e =
          hung-into A m (m + 1) d (record { first = positive d e; most = omega (arith, parent_above below d (omega arith)); parent_is = e })
        where
          positive : (d : ℕ) → parent A d ≡ m + 1 → 1 ≤ d
          positive zero e = absurd (omega (arith, e, no-parent A))
          positive (suc d) e = omega arith

      made : (i : ℕ) → (i ∈ A (m + 1)) ⊎ FromChild A (m + 1) i → (i ∈ acc) ⊎ ((d : ℕ) × ((d ∈ hung A m (m + 1)) × (i ∈ handed_rows fs fr d)))
      made i (inl t) = inl (own i t)
      made i (inr c) =
          let t = hung-child c.child c.child-of in
          let u = drop_head (m + 1) (λ e. omega (arith, c.above)) (rw (cons c.child c.child-of) at c.row) in
          inr (c.child, (t, rw (found-child c.child t).hands u))
