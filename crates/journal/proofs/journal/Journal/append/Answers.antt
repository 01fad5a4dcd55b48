use Rattle.std.proofs.Common.{length}
use Rattle.std.proofs.lemmas.Bool.{cond-true, cond-false, lt-ltb, le-ltb}
use Rattle.journal.specs.Append.{in_row, in_other}
use Rattle.journal.specs.Image.{table_in}
use Rattle.journal.specs.Memory.{cursor_of}
use Rattle.journal.proofs.Appendings.{Answered, answered, too_many}
use Rattle.journal.proofs.journal.Journal.append.Goals as goal

pub returns-then-table-ge-ROW : goal.returns-then-table-ge-ROW
returns-then-table-ge-ROW c =
    let a : Answered c.args.clock c.args.table.now c.args.self.now c.args.self.now c.args.lease _ = too_many c.args.clock c.args.table.now c.args.self.now c.args.lease c.if-table-ge-ROW.true in
    record { value = a.value; stands = a.stands; outlives = a.outlives; file = a.file }

pub returns-then-self-lt-ROW : goal.returns-then-self-lt-ROW
returns-then-self-lt-ROW c =
    let a : Answered c.args.clock c.args.table.now c.args.self.now c.append_in_row.new.self c.args.lease c.append_in_row.result =
    answered c.args.clock c.args.table.now c.args.self.now c.append_in_row.new.self c.args.lease c.append_in_row.result (in_row (cursor_of c.args.self.now))
    c.if-table-ge-ROW.false (cond-true _ _ _ (lt-ltb _ _ c.if-self-lt-ROW.true)) c.append_in_row.ensures in
    record { value = a.value; stands = a.stands; outlives = a.outlives; file = a.file }

pub returns : goal.returns
returns c =
    let a : Answered c.args.clock c.args.table.now c.args.self.now c.append_in_other.new.self c.args.lease c.append_in_other.result =
    answered c.args.clock c.args.table.now c.args.self.now c.append_in_other.new.self c.args.lease c.append_in_other.result
    (in_other (length c.args.table.now) c.args.clock (cursor_of c.args.self.now) (table_in c.args.table.now))
    c.if-table-ge-ROW.false (cond-false _ _ _ (le-ltb _ _ c.if-self-lt-ROW.false)) c.append_in_other.ensures in
    record { value = a.value; stands = a.stands; outlives = a.outlives; file = a.file }
