use Rattle.std.{proofs.Common.{ℕ, List, ◌++◌, map, ap, ◌∙◌}, specs.List.flat_map}
use Rattle.gypsy_meaning.{specs.Views.Stacks.waiting_at, specs.declared.activations.Activation.Activation}
use Rattle.level_debuggers.{specs.GypsyLevels.{activation_lines, gypsy_listing}, specs.Views.Belonging.gypsy_of, proofs.WaitingLaws.all_printed}
use Rattle.level_debuggers.proofs.gypsy_level.GypsyLevel.show_all.Goals as goal

pub returns : goal.returns
returns g c =
    let level = gypsy_of c.args.self.now in
    let s = level.source in
    let all : List Activation = c.in_ok-waiting.waiting.items in
    let print : List Activation → List ℕ =
    flat_map (λ a. activation_lines s a.procedure (map (λ v. v.0) a.variables.items) (map (λ v. v.1) a.variables.items)) in
    c.in_ok-push_activations.ensures
    ∙ ap (λ (xs : List Activation). c.in_ok-text.text.items ++ print xs) c.as_slice.ensures.value
    ∙ ap (λ (text : List ℕ). text ++ print all) c.in_ok-text.ensures
    ∙ ap (λ (text : List ℕ). gypsy_listing level ++ text)
    (all_printed s all (waiting_at level.seen.stage) c.in_ok-waiting.ensures.values
    (c.in_ok-waiting.ensures.names s c.args.self.now.needs.procedures.items c.requires))
