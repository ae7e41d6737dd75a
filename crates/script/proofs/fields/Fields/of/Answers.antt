use Rattle.std.proofs.Common.{◌∷◌, [], ◌++◌, eqb, map, ap, ◌∙◌, rules, tests, arith}
use Rattle.std.proofs.lemmas.List.{take_more_set, length-append}
use Rattle.std.proofs.lemmas.Iterator.Consumers.{YieldsList-at, YieldsList-turn, YieldsList-end}
use Rattle.std.proofs.lemmas.Iterator.Splits.{YieldsList-from_slice_split}
use Rattle.script.proofs.fields.Fields.of.Goals as goal

pub returns-then-count-eq-MOST_FIELDS : goal.returns-then-count-eq-MOST_FIELDS
returns-then-count-eq-MOST_FIELDS c =
    let turn = YieldsList-turn (YieldsList-at c.into_iter-field-iterator.ensures.into_iter_gives (YieldsList-from_slice_split _ (λ x. eqb x 44) c.args.line.now c.split-field-items.ensures.rest c.split-field-items.ensures.done c.split-field-items.ensures.closure (λ x r q k. search (rules, tests)))) c.loop-field.yielded _ c.loop-field.yielded_by _ c.next.new.self c.in-Some.field c.in-Some.is c.next.ensures.steps in
    omega (arith, turn.0, c.loop-field.invariant.place)

pub offset_bounds-row-count : goal.offset_bounds-row-count
offset_bounds-row-count c = omega (arith, c.loop-field.invariant.most)

pub bounds-row-count : goal.bounds-row-count
bounds-row-count c = omega (arith, c.loop-field.invariant.most, c.if-count-eq-MOST_FIELDS.false)

pub loop-field-preserved : goal.loop-field-preserved
loop-field-preserved c = record {
  can = search rules;
  finite = search rules;
  row = search rules;
  most = omega (arith, c.loop-field.invariant.most, c.if-count-eq-MOST_FIELDS.false);
  place = omega (arith, length-append c.loop-field.yielded (c.in-Some.field ∷ []), c.loop-field.invariant.place);
  so_far = take_more_set c.loop-field.row c.loop-field.count c.in-Some.field (omega (arith, c.loop-field.invariant.most, c.if-count-eq-MOST_FIELDS.false)) ∙ ap (λ l. l ++ c.in-Some.field ∷ []) c.loop-field.invariant.so_far;
}

pub returns : goal.returns
returns c =
    let end = YieldsList-end (YieldsList-at c.into_iter-field-iterator.ensures.into_iter_gives (YieldsList-from_slice_split _ _ c.args.line.now c.split-field-items.ensures.rest c.split-field-items.ensures.done c.split-field-items.ensures.closure (λ x r q k. search (rules, tests)))) c.loop-field.yielded _ c.loop-field.yielded_by _ c.next.new.self c.in-None.is c.next.ensures.steps in
    ap (map (λ field. field.now)) c.loop-field.invariant.so_far ∙ end.0
