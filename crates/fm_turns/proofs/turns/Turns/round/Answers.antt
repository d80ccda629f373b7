use Rattle.std.{proofs.Common.{◌≡◌, ◌++◌, ◌∙◌, List, length, take, drop, map, sym, ap, subst, arith}, specs.Prelude.All}
use Rattle.fm_turns.{specs.declared.context.TaskContext.TaskContext, specs.declared.round.Round.Round, specs.Turns.{TurnsOf, IsPart, AreWithin, images_of}}
use Rattle.fm_turns.proofs.TurningLaws.{parts_kept, written_back, images-after_turns, turns_within}
use Rattle.fm_turns.proofs.turns.Turns.round.Goals as goal

pub invariant_of-self : goal.invariant_of-self
invariant_of-self c =
    let len : c.self.inside.contexts.len ≡ length c.self.inside.contexts.items = omega (arith, c.self.inside.contexts.ok) in
    let all : length c.go_round.new.contexts ≡ length c.self.inside.contexts.items =
    omega (arith, c.go_round.auto.contexts, ap length c.as_mut_slice.ensures.value) in
    parts_kept _ c.self.inside.machine.state.base c.go_round.new.machine.state.base c.self.inside.machine.state.memory
    c.go_round.new.machine.state.memory c.as_mut_slice.result.now
    (take c.self.inside.contexts.len (c.go_round.new.contexts ++ drop (length c.go_round.new.contexts) c.self.inside.contexts.items))
    c.go_round.ensures.base c.go_round.ensures.memory
    (written_back c.self.inside.contexts.len c.go_round.new.contexts c.self.inside.contexts.items len all ∙ c.go_round.ensures.contexts)
    (subst (λ (xs : List TaskContext). All (IsPart c.self.inside.machine.state.base (length c.self.inside.machine.state.memory))
    (map (λ context. context.image) xs)) (sym c.as_mut_slice.ensures.value) c.self.invariant)

pub returns-clause-images : goal.returns-clause-images
returns-clause-images c =
    let len : c.self.inside.contexts.len ≡ length c.self.inside.contexts.items = omega (arith, c.self.inside.contexts.ok) in
    let all : length c.go_round.new.contexts ≡ length c.self.inside.contexts.items =
    omega (arith, c.go_round.auto.contexts, ap length c.as_mut_slice.ensures.value) in
    let round : Round = record { number = c.saturating_add-self-inside.result; turn = c.args.turn; budget = c.args.budget } in
    let items = written_back c.self.inside.contexts.len c.go_round.new.contexts c.self.inside.contexts.items len all ∙ c.go_round.ensures.contexts in
    ap (λ (xs : List TaskContext). map (λ context. context.image) xs) items ∙ images-after_turns round c.self.inside.machine.state.base
    c.self.inside.machine.state.memory c.as_mut_slice.result.now
    ∙ ap (λ (xs : List TaskContext). map (λ context. context.image) xs) c.as_mut_slice.ensures.value ∙ ap images_of c.self.view_is

pub returns-clause-within : goal.returns-clause-within
returns-clause-within c =
    let len : c.self.inside.contexts.len ≡ length c.self.inside.contexts.items = omega (arith, c.self.inside.contexts.ok) in
    let all : length c.go_round.new.contexts ≡ length c.self.inside.contexts.items =
    omega (arith, c.go_round.auto.contexts, ap length c.as_mut_slice.ensures.value) in
    let round : Round = record { number = c.saturating_add-self-inside.result; turn = c.args.turn; budget = c.args.budget } in
    let items = written_back c.self.inside.contexts.len c.go_round.new.contexts c.self.inside.contexts.items len all ∙ c.go_round.ensures.contexts in
    let was : c.as_mut_slice.result.now ≡ c.args.self.now.contexts = c.as_mut_slice.ensures.value ∙ ap (λ (t : TurnsOf). t.contexts) c.self.view_is in
    subst (AreWithin c.args.budget) (sym items)
    (turns_within round c.self.inside.machine.state.base c.self.inside.machine.state.memory c.as_mut_slice.result.now
    (subst (AreWithin c.args.budget) (sym was) c.requires.within))
