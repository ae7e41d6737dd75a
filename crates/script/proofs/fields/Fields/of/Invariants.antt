use Rattle.std.proofs.Common.{◌≡◌, length, take, ◌≤◌}
use Rattle.script.specs.Words.{most_fields}
use Rattle.script.proofs.fields.Fields.of.Given as goal

abbrev pub invariant-loop-field : goal.invariant-loop-field
invariant-loop-field l = record {
  can : (goal.iterator-loop-field).can_next l.field-iterator;
  finite : (goal.iterator-loop-field).is_finite l.field-iterator;
  row : length l.row ≡ most_fields;
  most : l.count ≤ most_fields;
  place : l.count ≡ length l.yielded;
  so_far : take l.count l.row ≡ l.yielded;
}
