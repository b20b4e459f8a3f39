-- Proves the three ways to gather a column's list: it has no child, one child, or several. Of several, the longest is joined first, and the others
-- follow.
-- Assumes nothing.
use Prim.Native.Nat.{ℕ, ◌+◌, ◌<◌, ◌≤◌}
use mathlib.Core.Path.{◌≡◌, refl, ap, ◌∙◌}
use mathlib.Core.Logic.{⊎_elim, ◌≢◌}
use mathlib.Core.List.Memᴰ
use mathlib.Core.List.{List, [], ◌∷◌}
use native.Mathlib.Omega.{arith}
use lib.ListN.{length, get_or, take}
use lib.Seq.{sets, length-sets}
use Rattle.papers.specs.Lists.{◌∈◌, Asc, merge}
use Rattle.papers.specs.Job.{Pattern, column_of}
use Rattle.papers.specs.Fill.{R}
use Rattle.list_laws.proofs.Ascending.{asc-length}
use Rattle.list_laws.proofs.Merges.{merge-asc, merge-left, merge-right, merge-from}
use Rattle.fill_laws.proofs.Fill.{R-range}
use Rattle.column_laws.proofs.Columns.{starts-long, starts-rise, starts_fit}
use Rattle.list_laws.proofs.Stores.{stored-at-start}
use Rattle.joiner.specs.Join.{United}
use Rattle.linked_children.specs.Children.{handed_rows, StoredChild, Linked, Longest}
use Rattle.linked_children.proofs.Picking.{siblings-ext}
use Rattle.child_lists.specs.Marks.{marked, Markable, MarkedWithin, Changed}
use Rattle.child_lists.specs.Joining.{Makes, ListBegun, Joining, ChildrenJoined}
use Rattle.child_lists.proofs.Marks.{marks-sound, changed-none, changed-more, changed-marked}
use Rattle.child_lists.proofs.Buffers.{first-buffer}
use Rattle.child_lists.proofs.Making.{makes-skip, makes-end}
use Rattle.lists.specs.Between.{RowsBetween}
use Rattle.column_list.specs.Hung.{hung}
use Rattle.column_list.specs.Stored.{Next, Gatherable, Gathers}
use Rattle.column_list.proofs.Gathering.{below, found-child, chain, siblings, makes}
use Rattle.column_list.proofs.Owns.{own-asc, own_in, own-makes, own_alone, first-linked, only_child}

-- the pattern rows of the next column are a part of the slice
pub part_of : {n m : ℕ} {starts rows fs fr w : List ℕ} → Next n m starts rows fs fr w → RowsBetween m starts rows
part_of {m = m} g =
    let l = g.column in
    record {
      started = omega (arith, starts-long g.tested);
      rises = starts-rise g.tested m l;
      ends = starts_fit g.tested (m + 1) (omega arith);
    }

module _ {n m : ℕ} {starts rows fs fr w x y : List ℕ} (g : Gatherable n m starts rows fs fr w x y) where
  abbrev A : Pattern
  A = column_of starts rows

  few : (l : List ℕ) → Asc (m + 1) l → ((i : ℕ) → i ∈ l → i ∈ R A (m + 1)) → length l ≤ n
  few l s f = omega (arith, asc-length n (m + 1) l s (λ i t. (R-range (below g.next) (m + 1) i (f i t)).1))

  -- R(m + 1) is at the start of x
  holds : (l x₁ : List ℕ) → x₁ ≡ sets x 0 l → length l ≤ length x → l ≡ R A (m + 1) → Gathers n m A w w x₁ y 0 (length l)
  holds l x₁ e h q =
      record {
        holds = record { count = ap length q; list = rw (first-buffer 0 x₁ y refl, e) (stored-at-start x l h ∙ q) };
        changed = changed-none n (m + 1) w;
      }

  -- ---- the pattern rows

  module _ {own : List ℕ} (o : own ≡ A (m + 1)) where
    -- the pattern rows find room
    pub own-fits : length own ≤ length x
    own-fits = omega (arith, few own (own-asc g.next o) (own_in g.next o), g.room-x)

    -- without a child they are the whole list
    pub alone : {x₁ : List ℕ} → get_or w (m + 1) 0 ≡ 0 → x₁ ≡ sets x 0 own → Gathers n m A w w x₁ y 0 (length own)
    alone {x₁} z e = holds own x₁ e own-fits (own_alone g.next o z)

  -- ---- the longest child

  pub linked : Linked n (get_or w (m + 1) 0) fs w
  linked = record { children = hung A m (m + 1); siblings = siblings g.next }

  -- the child's list is stored
  pub longest-stands : {d : ℕ} → get_or w (m + 1) 0 ≢ 0 → Longest n (get_or w (m + 1) 0) fs w d → StoredChild d fs fr
  longest-stands {d} z b = (found-child g.next d (b.among (hung A m (m + 1)) (chain g.next) z)).stands

-- joins the pattern rows with the rows that the longest child hands on
pub record First (n m : ℕ) (starts rows fs fr w x y own more : List ℕ) : Type 0 where
  pub gatherable : Gatherable n m starts rows fs fr w x y
  pub own_is : own ≡ column_of starts rows (m + 1)
  pub some : get_or w (m + 1) 0 ≢ 0
  pub child : ℕ
  pub longest : Longest n (get_or w (m + 1) 0) fs w child
  pub more-is : more ≡ handed_rows fs fr child

module _ {n m : ℕ} {starts rows fs fr w x y own more : List ℕ} (f : First n m starts rows fs fr w x y own more) where
  abbrev g : Gatherable n m starts rows fs fr w x y
  g = f.gatherable

  -- work has the place of the first child's link
  pub first-link : n + get_or w (m + 1) 0 < length w
  first-link = first-linked g.next f.some

  member : f.child ∈ hung (A g) m (m + 1)
  member = f.longest.among (hung (A g) m (m + 1)) (chain g.next) f.some

  begun : Makes (m + 1) (handed_rows fs fr) (hung (A g) m (m + 1)) (merge own more) (R (A g) (m + 1))
  begun =
      let o = own-makes g.next f.own_is in
      makes g.next (merge own more)
      (merge-asc (m + 1) own more o.asc (rw f.more-is (o.asc-hands f.child member)))
      (λ i t. merge-left own more (rw f.own_is t))
      (λ i t. ⊎_elim (o.acc-in i) (λ (u : i ∈ more). o.hands_in f.child i member (rw f.more-is at u)) (merge-from own more t))

  range : (i : ℕ) → i ∈ merge own more → (m + 1 < i) × (i ≤ n)
  range i t = R-range (below g.next) (m + 1) i (begun.acc-in i t)

  pub first_fits : length (merge own more) ≤ length x
  first_fits = omega (arith, few g (merge own more) begun.asc begun.acc-in, g.room-x)

  -- x holds the two joined
  module _ {x₁ : List ℕ} {len : ℕ} (u : United own more x x₁ len) where
    at-start : take len x₁ ≡ merge own more
    at-start = rw (u.joins, u.counts) (stored-at-start x (merge own more) first_fits)

    long : length x₁ ≡ length x
    long = ap length u.joins ∙ length-sets x 0 (merge own more)

    pub first-len : len ≤ length x₁
    first-len = omega (arith, u.counts, long, first_fits)

    -- the column has one child
    pub single : get_or w (n + get_or w (m + 1) 0) 0 ≡ 0 → Gathers n m (A g) w w x₁ y 0 len
    single q = rw u.counts (holds g (merge own more) x₁ u.joins first_fits whole)
      where
        whole : merge own more ≡ R (A g) (m + 1)
        whole =
            let is = only_child g.next f.some q in
            let same : f.child ≡ get_or w (m + 1) 0 = only (rw is at member) in
            makes-end (makes-skip (rw is at begun) (λ i t. merge-right own more (rw (f.more-is, same) t)))
          where
            only : {a b : ℕ} → a ∈ (b ∷ []) → a ≡ b
            only {a} {b} t = ⊎_elim (λ (e : a ≡ b). e) (λ (u : a ∈ []). absurd (Memᴰ.not-nil u)) (Memᴰ.cases_cons t)

    -- several children: the rows of x are marked, and the other children follow
    pub first-markable : Markable n (take len x₁) w
    first-markable = record { most = λ i t. (range i (rw at-start at t)).1; long = g.next.stored.work-long }

    module _ {w₁ : List ℕ} (k : w₁ ≡ marked n (m + 1) (take len x₁) w) (lw : length w₁ ≡ length w) where
      change : Changed n (m + 1) w w₁
      change = rw k (changed-marked n (m + 1) (take len x₁) w (λ i t. omega (arith, (range i (rw at-start at t)).0)))

      ready : ListBegun n (m + 1) (get_or w (m + 1) 0) len fs fr w₁ x₁ y (hung (A g) m (m + 1)) (R (A g) (m + 1))
      ready =
          record {
            siblings = siblings-ext w₁ (siblings g.next) change.links lw;
            ends = λ c t. (found-child g.next c t).stands.ends;
            makes = rw at-start begun;
            most = λ i t. (R-range (below g.next) (m + 1) i t).1;
            few = first-len;
            sound = rw k (marks-sound n (m + 1) (take len x₁) w [] (take len x₁) unmarked (λ i t. absurd (Memᴰ.not-nil t)) (λ i t. t));
            room-x = rw long g.room-x;
            room-y = g.room-y;
            room-work = rw lw g.next.stored.work-long;
          }
        where
          unmarked : MarkedWithin n (m + 1) w []
          unmarked i l e = absurd (omega (arith, g.next.stored.fresh (n + n + i) (omega arith)))

      pub several : Joining n (m + 1) (get_or w (m + 1) 0) len fs fr w₁ x₁ y
      several = record { children = hung (A g) m (m + 1); whole = R (A g) (m + 1); begun = ready }

      pub all-joined : {w₂ x₂ y₂ : List ℕ} {turn count : ℕ} → ChildrenJoined n (m + 1) (get_or w (m + 1) 0) len fs fr w₁ x₁ y turn count w₂ x₂ y₂
          → Gathers n m (A g) w w₂ x₂ y₂ turn count
      all-joined {w₂} r =
          record { holds = r.list (hung (A g) m (m + 1)) (R (A g) (m + 1)) ready; changed = changed-more w₂ change r.changed }
