-- `Reader::head` meets its contract: four fields, each with the byte behind it (head_third, head_fourth, head_got).
use Rattle.request.proofs.reading.HeadLaws.{head_third, head_fourth, head_got}
use Rattle.request.proofs.reading.Reader.head.Goals as goal

pub returns-in_err-m : goal.returns-in_err-m
returns-in_err-m c =
    rw c.from_residual-in_err-m.ensures
    (head_third c.args.self.now c.field.new.self c.field-2.new.self c.in_ok-plan.plan c.in_ok-d.d c.in_ok-plan.ensures c.in_ok-d.ensures c.in_err-m.ensures)

pub returns-in_err-ceiling : goal.returns-in_err-ceiling
returns-in_err-ceiling c =
    rw c.from_residual-in_err-ceiling.ensures
    (head_fourth c.args.self.now c.field.new.self c.field-2.new.self c.in_ok-plan.plan c.in_ok-d.d c.in_ok-plan.ensures c.in_ok-d.ensures
    c.field-3.new.self c.in_ok-m.m c.in_ok-m.ensures c.in_err-ceiling.ensures)

pub returns : goal.returns
returns c =
    head_got c.args.self.now c.field.new.self c.field-2.new.self c.in_ok-plan.plan c.in_ok-d.d c.in_ok-plan.ensures c.in_ok-d.ensures
    c.field-3.new.self c.in_ok-m.m c.in_ok-m.ensures c.in_ok-ceiling.ceiling c.field-4.new.self c.in_ok-ceiling.ensures
