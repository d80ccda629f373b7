use Rattle.std.proofs.Common.{◌≡◌, ◌+◌, List, [], ◌∷◌, ◌++◌, sym, subst, rules}
use Rattle.gypsy_space.{specs.Nodes.seen_program, specs.StatementNeeds.AreFirst, specs.declared.need.Need.Need, proofs.FirstLaws.{first_none, first_pushed}}
use Rattle.gypsy_space.proofs.counting.needs_of.Goals as goal

pub loop-index-init : goal.loop-index-init
loop-index-init g c =
    let P : List Need → Type 0 = AreFirst (seen_program c.args.program.now) 0 in
    subst P (sym c.new-procedures.ensures.items) (first_none (seen_program c.args.program.now))

pub loop-index-preserved : goal.loop-index-preserved
loop-index-preserved g c =
    let q = seen_program c.args.program.now in
    let k = c.loop-index.index in
    let n : Need = c.need_of.result in
    let P : List Need → Type 0 = AreFirst q (k + 1) in
    let pushed : c.push.new.items.items ≡ c.loop-index.procedures.items ++ n ∷ [] = search rules in
    subst P (sym pushed) (first_pushed q k c.loop-index.procedures.items n c.loop-index.invariant c.need_of.ensures.exact c.need_of.ensures.small)
