-- Proves the test of a plan's lists, stored in slices: if it passes, the parents that it stored are the job's, and the tests of the tree are left.
-- Assumes nothing.
use Prim.Native.Nat.{ℕ, ◌+◌, ◌≤◌}
use mathlib.Core.Path.{◌≡◌, sym, ap, ◌∙◌}
use mathlib.Core.List.{List, [], ◌∷◌, map}
use native.Mathlib.Omega.{arith}
use lib.ListN.{length, take, length-map}
use lib.Seq.{sets, sets-eq, take_at}
use Rattle.papers.specs.declared.Answer.{Answer}
use Rattle.papers.specs.Check.{column_repeated, judge_refusals, list_wrong}
use Rattle.papers.specs.Bounds.{work_length_for}
use Rattle.papers.specs.Lists.{up_to}
use Rattle.papers.specs.Refusals.{answer, passed, first}
use Rattle.papers.specs.Job.{Job, pattern}
use Rattle.papers.specs.Tree.{parent}
use Rattle.papers.specs.Plan.{Plan}
use Rattle.job_laws.specs.Passed.{Passed}
use Rattle.list_laws.proofs.UpTo.{length-up_to}
use Rattle.job_laws.proofs.Firsts.{first_passes}
use Rattle.check_lists.specs.Lists.{PlanLists, HoldLists, FirstWrong}
use Rattle.std.specs.Prelude.{Option, Some, None}
use Rattle.check_judge.specs.Judged.{PlanAtStart, OnTree, TreeGiven, ruling, TreeJudged, plan_from, tree_refusals}
use Rattle.check_judge.proofs.Rulings.{ruling-refused, decides, place-refuses, place-passes}

length-family : (f : ℕ → ℕ) (n : ℕ) → length (map f (up_to n)) ≡ n
length-family f n = length-map (up_to n) f ∙ length-up_to n

pub parents-count : (f : ℕ → ℕ) (n : ℕ) {parents : List ℕ} → parents ≡ map f (up_to n) → length parents ≡ n
parents-count f n e = ap length e ∙ length-family f n

-- the start of a slice in which the parents are stored
parents-at-start : (f : ℕ → ℕ) (n : ℕ) (parents : List ℕ) {after : List ℕ} → n ≤ length parents → after ≡ sets parents 0 (map f (up_to n))
    → take n after ≡ map f (up_to n)
parents-at-start f n parents h e =
    let long = length-family f n in
    rw (e, sets-eq (map f (up_to n)) parents 0 (omega arith)) (take_at (map f (up_to n)) _ n long)

module _ (job : Job) (valid : Passed job) (plan : Plan) {peak : ℕ} {order pops fstarts frows : List ℕ}
    (at-start : PlanAtStart job.n plan peak order pops fstarts frows) where
  plan-lists : PlanLists job.n plan.lists fstarts frows
  plan-lists =
      record {
        count = at-start.stored.fit.all-lists;
        fit = at-start.stored.fit.lists;
        starts-are = at-start.stored.begins;
        rows_are = at-start.listed;
      }

  pub lists-stored : HoldLists job.n fstarts frows
  lists-stored = record { lists = plan.lists; are = plan-lists }

  module _ (unrepeated : column_repeated.test (plan_from job plan) ≡ passed) where
    -- ---- 17
    module _ {column : Option ℕ} (e : FirstWrong job.n (pattern job) fstarts frows column) where
      pub refuses-17 : {p : ℕ} → column ≡ Some p → {r : Answer} → r ≡ answer 17 p 0 → r ≡ ruling (first judge_refusals (plan_from job plan)) peak
      unfolding judge_refusals
      refuses-17 is q =
          ruling-refused peak
          (decides (column_repeated ∷ []) list_wrong _ (plan_from job plan) (unrepeated, tt) (place-refuses 17 _ (e plan.lists plan-lists) is)) q

      pub passes-17 : column ≡ None → list_wrong.test (plan_from job plan) ≡ passed
      passes-17 is = place-passes 17 _ (e plan.lists plan-lists) is

    module _ (right : list_wrong.test (plan_from job plan) ≡ passed) where
      -- the start of their slice holds the parents
      module _ {limit : ℕ} (parents : List ℕ) {after : List ℕ} (limited : job.limit ≡ limit) (long : job.n ≤ length parents)
          (stored : after ≡ sets parents 0 (map (parent (pattern job)) (up_to job.n)))
        where
          parents-are : take job.n after ≡ map (parent (pattern job)) (up_to job.n)
          parents-are = parents-at-start (parent (pattern job)) job.n parents long stored

          on-tree : OnTree job plan limit peak (take job.n after) (take job.n order) (take job.n pops) (take (job.n + 1) fstarts)
          on-tree = record {
            valid = valid;
            limited = limited;
            stored = at-start.stored;
            unrepeated = unrepeated;
            right = right;
            parents-are = parents-are;
          }

          -- what the tests of the tree require
          pub tree-given : {work : List ℕ} → work_length_for job.n ≤ length work
              → TreeGiven limit peak (take job.n after) (take job.n order) (take job.n pops) (take (job.n + 1) fstarts) work
          tree-given h = record {
            plan = record { job = job; plan = plan; on = on-tree };
            room = rw (parents-count (parent (pattern job)) job.n parents-are) h;
          }

          -- the tests of the tree are left, and their answer is the plan's
          pub left-to-tree : {r : Answer}
              → TreeJudged limit peak (take job.n after) (take job.n order) (take job.n pops) (take (job.n + 1) fstarts) r
              → r ≡ ruling (first judge_refusals (plan_from job plan)) peak
          unfolding judge_refusals tree_refusals
          left-to-tree judged =
              judged job plan on-tree
              ∙ sym (ap (λ v. ruling v peak) (first_passes _ _ (plan_from job plan) unrepeated ∙ first_passes _ _ (plan_from job plan) right))
