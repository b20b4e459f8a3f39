-- Proves that the list of a column without a child is its pattern rows, and with one child these joined with what the child hands on.
-- Assumes nothing.
use Prim.Native.Nat.{ℕ, ◌+◌, ◌<◌}
use mathlib.Core.Path.{◌≡◌, refl, ap, ◌∙◌}
use mathlib.Core.Logic.{◌≢◌}
use mathlib.Core.Bool.{Bool}
use mathlib.Core.List.{List}
use native.Mathlib.Omega.{arith}
use lib.ListN.{length, get_or}
use Rattle.papers.specs.Lists.{Asc, same, merge}
use Rattle.papers.specs.Job.{Pattern, column_of}
use Rattle.papers.specs.Fill.{R}
use Rattle.list_laws.proofs.Merges.{nil-merge}
use Rattle.linked_children.specs.Children.{StoredChild, handed_rows}
use Rattle.child_lists.proofs.Marks.{changed-none}
use Rattle.child_lists.proofs.Making.{makes-join, makes-end}
use Rattle.column_list.proofs.Gathering.{found-child}
use Rattle.column_list.proofs.Owns.{own-asc, own-makes, own_alone, own-markable, own-change, first-child, first-linked, only_child}
use Rattle.check_marks.specs.Marked.{MarkedAre, ListComparable, Compared}
use Rattle.check_marks.proofs.Marked.{marked-none, marked_more}
use Rattle.check_marks.proofs.Judging.{list-markable}
use Rattle.check_rows.specs.Added.{Begins, Addable, Adds}
use Rattle.check_lists.proofs.Adding.{adds-exactly}

module _ {n m : ℕ} {list starts rows fs fr w own : List ℕ} (c : ListComparable n m list starts rows fs fr w)
    (o : own ≡ column_of starts rows (m + 1)) where
  abbrev A : Pattern
  A = column_of starts rows

  -- no child
  pub no-child : {r : Bool} → get_or w (m + 1) 0 ≡ 0 → r ≡ same list own → Compared n m list A w w r
  no-child z e = record { answers = e ∙ ap (same list) (own_alone c.next o z); changed = changed-none n (m + 1) w }

  -- children
  module _ (z : get_or w (m + 1) 0 ≢ 0) where
    pub child-link : n + get_or w (m + 1) 0 < length w
    child-link = first-linked c.next z

    pub child-found : StoredChild (get_or w (m + 1) 0) fs fr
    child-found = (found-child c.next (get_or w (m + 1) 0) (first-child c.next z)).stands

    -- one child
    module _ {more : List ℕ} (q : get_or w (n + get_or w (m + 1) 0) 0 ≡ 0) (h : more ≡ handed_rows fs fr (get_or w (m + 1) 0)) where
      more-asc : Asc (m + 1) more
      more-asc = rw h ((own-makes c.next o).asc-hands (get_or w (m + 1) 0) (first-child c.next z))

      one-joined : merge own more ≡ R A (m + 1)
      one-joined = rw h (makes-end (makes-join (rw (only_child c.next z q) at (own-makes c.next o))))

      -- a list that begins with the child's rows
      module _ (b : Begins list more) where
        pub addable : Addable n list (length more) own w
        addable = record { own-markable = own-markable c.next o; list-markable = list-markable c refl; place = b.long }

        pub one-child : {w₁ : List ℕ} {r : Bool} → Adds n (m + 1) list (length more) own w w₁ r → Compared n m list A w w₁ r
        one-child {w₁} a =
            let none = marked-none n (m + 1) w (λ i k. omega (arith, c.next.stored.fresh (n + n + i) (omega arith))) in
            let are : MarkedAre n (m + 1) w₁ own = rw a.marks (rw (nil-merge own) at (marked_more none own (own-markable c.next o))) in
            record {
              answers =
                  a.answers
                  ∙ adds-exactly n (m + 1) w₁ own more list are (own-asc c.next o) c.ascending b.begins more-asc
                  ∙ ap (same list) one-joined;
              changed = own-change c.next o a.marks;
            }
