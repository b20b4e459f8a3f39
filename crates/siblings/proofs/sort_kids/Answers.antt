-- Proves that `sort_kids` sorts by the mark: the sort reads the keys that were stored, and W is computed from the sorted children.
-- Assumes nothing.
use Rattle.std.proofs.Common.{arith}
use Rattle.siblings.proofs.Placing.{sorted-kids, sorted-done}
use Rattle.siblings.proofs.sort_kids.Goals as goal

pub room_alone-requires : goal.room_alone-requires
room_alone-requires c =
    sorted-kids _ c.requires c.store_keys.ensures (omega arith)
    c.sort_columns.ensures

pub returns : goal.returns
returns c =
    sorted-done _ c.requires c.store_keys.ensures (omega arith)
    c.sort_columns.ensures c.room_alone.ensures
