-- Proves that `store_keys` stores the keys of the children: it stores them behind the W, so it overwrites no W that it has yet to read.
-- Assumes nothing.
use Rattle.std.proofs.Common.{get_or, rules}
use Rattle.sibling_keys.proofs.Keys.{same_key, Places, keying-places, keying-start, keying-reads, keying-turn}
use Rattle.list_laws.proofs.Members.{at_place}
use Rattle.sibling_keys.proofs.store_keys.Goals as goal
use Rattle.sibling_keys.proofs.store_keys.Goals.{In-loop-kid}

-- work has the places of the child's W and key
places : (c : In-loop-kid)
    → Places c.args.w c.args.k (get_or c.args.kids.now c.loop-kid.kid-index 0) c.loop-kid.work
places c = keying-places c.loop-kid.invariant c.requires c.loop-kid-test.true

pub loop-kid-init : goal.loop-kid-init
loop-kid-init c = keying-start

pub rows_of-rows-requires : goal.rows_of-rows-requires
rows_of-rows-requires c = c.requires.children.column _ (at_place _ _ c.loop-kid-test.true)

pub bounds-work-w : goal.bounds-work-w
bounds-work-w c = let p = places (goal.at.bounds-work-w c).In-loop-kid in search rules

pub bounds-work-k : goal.bounds-work-k
bounds-work-k c = (places (goal.at.bounds-work-k c).In-loop-kid).key

pub loop-kid-preserved : goal.loop-kid-preserved
loop-kid-preserved c =
    let inv = c.loop-kid.invariant in
    keying-turn inv c.loop-kid-test.true
    (same_key _ c.sibling_key.ensures c.rows_of-above.ensures.same c.rows_of-rows.ensures.same
    (keying-reads inv c.args.w _ c.requires.rise (places (goal.at.loop-kid-preserved c).In-loop-kid).own))
    (places (goal.at.loop-kid-preserved c).In-loop-kid).key
