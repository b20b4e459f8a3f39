-- Proves the steps of the loop over a plan's lists: those of the columns up to m are right, so the slices hold what storing R would leave, and the
-- next list can be compared with R(m + 1).
-- Assumes nothing.
use Prim.Native.Nat.{ℕ, suc, ◌+◌, ◌-◌, ◌<◌, ◌≤◌}
use mathlib.Core.Path.{◌≡◌, refl, sym, ap, ◌∙◌}
use mathlib.Core.Bool.{Bool, true, false, not}
use mathlib.Core.List.{List, map}
use native.Mathlib.Omega.{arith}
use native.Mathlib.Numerals.{add-one}
use lib.ListN.{length, set, length-map}
use lib.Seq.{sets, length-sets}
use Rattle.papers.specs.Lists.{same, least, head0, up_to, zeros}
use Rattle.papers.specs.Job.{Pattern, column_of}
use Rattle.papers.specs.Fill.{R}
use Rattle.papers.specs.Tree.{parent}
use Rattle.list_laws.proofs.Leasts.{least-none, least-here, least-same}
use Rattle.list_laws.proofs.Members.{same_true}
use Rattle.list_laws.proofs.Stores.{sets_more}
use Rattle.list_laws.proofs.UpTo.{length-up_to}
use Rattle.fill_laws.proofs.Parents.{parent-within}
use Rattle.column_laws.specs.Tested.{Tested}
use Rattle.column_laws.proofs.Columns.{tested-below}
use Rattle.list_laws.proofs.UpTo.{map-up_to}
use Rattle.lists.specs.Between.{RowsBetween}
use Rattle.column_list.specs.Stored.{ListsStored}
use Rattle.std.specs.Prelude.{Option, Some, None}
use Rattle.refusals.specs.Answers.{place_if_any}
use Rattle.structure.specs.Hanging.{hanging, Hangable}
use Rattle.structure.proofs.Storing.{parent_is, stored-none, stored_on}
use Rattle.check_marks.specs.Marked.{ListComparable, Compared}
use Rattle.check_lists.specs.Lists.{HoldLists, wrong, FirstWrong, ListsComparable, ListsCompared}
use Rattle.check_lists.proofs.Plans.{starts-long, first-start, plan-part, plan-list, plan-ascending, plan-within, stands-fits, stands}

-- tests whether column j of two slices differs from R(j)
abbrev wrong_in : Pattern → List ℕ → List ℕ → ℕ → Bool
wrong_in A fs fr j = not (same (column_of fs fr j) (R A j))

some-none : {k : ℕ} → ◌≡◌ {A = Option ℕ} (Some k) None → ⊥
some-none q = let z : ◌≡◌ {A = ℕ} 0 1 = cc in omega arith

-- the lists up to m are right
pub record Passing (n : ℕ) (starts rows fs fr p₀ w₀ p w : List ℕ) (m : ℕ) : Type 0 where
  pub tested : Tested n starts rows
  pub listed : HoldLists n fs fr
  pub most : m ≤ n
  pub stored : ListsStored n m (column_of starts rows) fs fr w
  pub none : least (wrong_in (column_of starts rows) fs fr) m ≡ 0
  pub parents-are : p ≡ sets p₀ 0 (map (parent (column_of starts rows)) (up_to m))
  pub long : length w ≡ length w₀

pub pass-begin : {n : ℕ} {starts rows fs fr p w w₁ : List ℕ} → ListsComparable n starts rows fs fr p w → w₁ ≡ zeros w
    → Passing n starts rows fs fr p w₁ p w₁ 0
unfolding least up_to
pass-begin {starts = starts} {rows} {fs} {fr} {w = w} {w₁} c e =
    let long = c.work-long in
    let pl = c.listed.are in
    record {
      tested = c.tested;
      listed = c.listed;
      most = omega arith;
      stored = stored-none (column_of starts rows) fs fr w w₁ (starts-long pl) (first-start pl) (omega arith) e;
      none = refl;
      parents-are = refl;
      long = refl;
    }

module _ {n m : ℕ} {starts rows fs fr p₀ w₀ p w : List ℕ} (s : Passing n starts rows fs fr p₀ w₀ p w m) where
  abbrev A : Pattern
  A = column_of starts rows

  pub long-p : length p ≡ length p₀
  long-p = ap length s.parents-are ∙ length-sets p₀ 0 (map (parent A) (up_to m))

  -- the first wrong column in the slices is that of the lists
  least-of : (r : Option ℕ) → r ≡ place_if_any (least (wrong_in A fs fr) n) → FirstWrong n A fs fr r
  least-of r e lists l = e ∙ ap place_if_any (least-same (wrong_in A fs fr) (wrong A lists) n agree)
    where
      agree : (k : ℕ) → 1 ≤ k → k ≤ n → wrong_in A fs fr k ≡ wrong A lists k
      agree k a b =
          let z : k - 1 + 1 ≡ k = omega arith in
          ap (λ x. not (same x (R A k))) (rw z at (plan-list l (k - 1) (omega arith)))

  -- all lists are right
  pub pass_all : n ≤ m → ListsCompared n A fs fr p₀ p None
  pass_all h =
      let z : m ≡ n = omega (arith, s.most) in
      record { answers = least-of None (sym (ap place_if_any (rw z at s.none))); stores = λ q. rw z at s.parents-are }

  -- ---- column m + 1

  module _ (l : m < n) where
    pub pass-part : RowsBetween m fs fr
    pass-part = plan-part s.listed.are m l

    module _ {list : List ℕ} (is : list ≡ column_of fs fr (m + 1)) where
      -- its list can be compared with R(m + 1)
      pub pass-next : ListComparable n m list starts rows fs fr w
      pass-next =
          record {
            next = record { tested = s.tested; column = l; stored = s.stored };
            ascending = rw is (plan-ascending s.listed.are m l);
            within = rw is (plan-within s.listed.are m l);
          }

      -- the list is wrong
      pub pass-wrong : {r : Bool} {w₁ : List ℕ} → Compared n m list A w w₁ r → r ≡ false → ListsCompared n A fs fr p₀ p (Some (m + 1))
      pass-wrong c z =
          let e = sym c.answers ∙ z in
          let yes : wrong_in A fs fr (suc m) ≡ true = ap not (rw (is, add-one) at e) in
          record {
            answers = least-of (Some (m + 1)) (rw add-one (sym (ap place_if_any (least-here (wrong_in A fs fr) m n s.none yes l))));
            stores = λ q. absurd (some-none q);
          }

      -- the list is right
      module _ {r : Bool} {w₁ : List ℕ} {q : ℕ} (c : Compared n m list A w w₁ r) (z : r ≡ true) (lw : length w₁ ≡ length w) (first : q ≡ head0 list)
        where
          right : list ≡ R A (m + 1)
          right = same_true list (R A (m + 1)) (sym c.answers ∙ z)

          head : head0 list ≡ parent A (suc m)
          head = rw (right, add-one) (parent_is A (suc m))

          pub pass-hangable : Hangable n q (m + 1) w₁
          pass-hangable =
              record {
                parent = rw (first, head) (parent-within (tested-below s.tested) (suc m));
                column = omega arith;
                long = omega (arith, s.stored.work-long);
              }

          pub pass_on : {w₂ : List ℕ} → w₂ ≡ hanging n q (m + 1) w₁ → length w₂ ≡ length w₁
              → Passing n starts rows fs fr p₀ w₀ (set p m q) w₂ (m + 1)
          pass_on k lv =
              let t = pass-part in
              record {
                tested = s.tested;
                listed = s.listed;
                most = omega arith;
                stored = rw (add-one, k, first) (stored_on (tested-below s.tested) s.stored l list right (stands-fits t list is) w₁ c.changed
                    lw (stands t list is p w₁));
                none = rw add-one (least-none (wrong_in A fs fr) m s.none (ap not (rw (is, add-one) at (sym c.answers ∙ z))));
                parents-are = rw (add-one, map-up_to (parent A) m) (sets_more (map (parent A) (up_to m)) p₀ 0 (parent A (suc m)) m s.parents-are
                    (rw (first, head)) (omega (arith, length-map (up_to m) (parent A), length-up_to m)));
                long = lv ∙ lw ∙ s.long;
              }
