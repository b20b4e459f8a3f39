-- Proves that `read_key` reads the head, the lists and the end; the first part at fault makes the key unreadable.
-- Assumes nothing.
use mathlib.Core.Path.{◌≡◌}
use Rattle.papers.specs.Numbers.{got}
use Rattle.read_key.specs.Keys.{head_read_from}
use Rattle.read_key.proofs.Heads.{head-fits}
use Rattle.read_key.proofs.Wholes.{no-head, no-lists, bytes_after, key-whole, ok-found, ok-none}
use Rattle.read_key.proofs.read_key.Goals as goal
use Rattle.read_key.proofs.read_key.Goals.{In_ok-head}

-- the head that is read
head-is : (c : In_ok-head) → head_read_from c.args.key.now ≡ got c.in_ok-head.head c.in_ok-head.lists
head-is c = rw (ok-found _ c.in_ok-head.ensures.value) at c.read_head.ensures

pub returns-in_err-head : goal.returns-in_err-head
returns-in_err-head c =
    let (fault, e) = ok-none _ c.in_err-head.ensures.value in
    rw c.from_residual.ensures (no-head _ (rw e at c.read_head.ensures))

pub count_rows-requires : goal.count_rows-requires
count_rows-requires c = head-fits _ _ _ (head-is (goal.at.count_rows-requires c).In_ok-head)

pub returns-in_err-rows : goal.returns-in_err-rows
returns-in_err-rows c =
    let (fault, e) = ok-none _ c.in_err-rows.ensures.value in
    rw c.from_residual-in_err-rows.ensures (no-lists _ (head-is (goal.at.returns-in_err-rows c).In_ok-head) (rw e at c.count_rows.ensures))

pub returns-then-next-key : goal.returns-then-next-key
returns-then-next-key c =
    let lists = rw (ok-found _ c.in_ok-rows.ensures.value) at c.count_rows.ensures in
    bytes_after _ (head-is (goal.at.returns-then-next-key c).In_ok-head) lists c.if-next-key.true

pub returns : goal.returns
returns c =
    let lists = rw (ok-found _ c.in_ok-rows.ensures.value) at c.count_rows.ensures in
    key-whole _ (head-is (goal.at.returns c).In_ok-head) lists c.if-next-key.false
