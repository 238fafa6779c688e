-- `flips::set_upright`: the sign at the end tells whether the row is upright (`upright`) or its negative is (`upright_turned`).
use mathlib.Core.Path.{refl}
use mathlib.Core.Logic.{inl}
use Rattle.std.proofs.lemmas.Option.{MatchOption-at_some, MatchOption-at_none}
use Rattle.planner.proofs.flips.UprightLaws.{upright, upright_turned}
use Rattle.planner.proofs.flips.set_upright.Goals as goal

pub returns-then-h-j-lt0 : goal.returns-then-h-j-lt0
returns-then-h-j-lt0 c =
    upright_turned c.args.h.now c.in-Some.j c.requires (MatchOption-at_some _ _ c.in-Some.j c.in-Some.is c.end_of.ensures) c.negate.new.h c.negate.ensures
    c.if-h-j-lt0.true

pub returns-else-h-j-lt0 : goal.returns-else-h-j-lt0
returns-else-h-j-lt0 c =
    upright c.args.h.now c.in-Some.j c.requires (MatchOption-at_some _ _ c.in-Some.j c.in-Some.is c.end_of.ensures) c.if-h-j-lt0.false

pub returns-in_default : goal.returns-in_default
returns-in_default c =
    record { which = inl refl; small = c.requires; above = inl (MatchOption-at_none _ _ c.in_default.is c.end_of.ensures) }
