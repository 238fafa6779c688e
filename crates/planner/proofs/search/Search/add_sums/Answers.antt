-- `Search::add_sums`: where a difference ends behind axis at its sum is set (sums-set); at the first axis, and where there is none, nothing is.
use mathlib.Core.Path.{subst, sym}
use Prim.Native.Nat.{ℕ, ◌+◌, ◌-◌, ◌*◌}
use native.Mathlib.Omega.{arith}
use lib.ListN.{get_or}
use Rattle.planner.specs.Sizes.{lasts}
use Rattle.planner.specs.Sieve.{Readable}
use Rattle.planner.proofs.search.SiftLaws.{sums-set}
use Rattle.planner.proofs.search.Search.add_sums.Goals as goal

pub set_sums-requires : goal.set_sums-requires
set_sums-requires c =
    let a = c.args in
    let from = c.from-from in
    let to = c.from-to in
    subst (λ (k : ℕ). Readable a.self.now.n (a.at - 1) a.self.now.task.list.now.components a.work.now.products a.work.now.sums k to.result) (sym from.ensures)
    (subst (λ (k : ℕ). Readable a.self.now.n (a.at - 1) a.self.now.task.list.now.components a.work.now.products a.work.now.sums (get_or a.self.now.task.list.now.bounds ((a.at + 1) * lasts) 0) k) (sym to.ensures)
    (c.requires.readable (a.at - 1) (omega arith) (omega arith)))

pub returns-then-at-d : goal.returns-then-at-d
returns-then-at-d c =
    let a = c.args in
    let from = c.from-from in
    let to = c.from-to in
    let set = c.set_sums in
    sums-set a.self.now a.at a.work.now set.new.sums (a.at - 1) from.result to.result (omega arith)
    from.ensures to.ensures set.ensures
