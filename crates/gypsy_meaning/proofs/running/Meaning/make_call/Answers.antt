use Rattle.std.{proofs.Common.{◌≡◌, ℕ, ◌<◌, length, sym, ap, ◌∙◌, arith}, proofs.lemmas.List.length-map}
use Rattle.gypsy_space.{specs.Needs.stack_sizes, specs.Nodes.{seen_proc, seen_program}, specs.Events.{lack_by, need_at}}
use Rattle.gypsy_space.{specs.declared.need.Lack.TheVariants.{Temporary, Control}, specs.declared.program.CallSite.CallSite}
use Rattle.gypsy_meaning.{specs.Views.Running.sizes_of, proofs.CallingLaws.{lacks_temporary, lacks_control}}
use Rattle.gypsy_meaning.proofs.running.Meaning.make_call.Goals as goal

pub raise_space-requires-clause-turn : goal.raise_space-requires-clause-turn
raise_space-requires-clause-turn g c =
    let m = c.args.self.now in
    let ns = c.args.needs.now.procedures.items in
    let site = c.args.site.value in
    let there : site.callee < length (seen_program m.program).procs = omega (arith, c.requires.callee, length-map m.program.procedures.items seen_proc) in
    let callee : c.deref.result.now.callee ≡ site.callee = ap (λ (s : CallSite). s.callee) c.deref.ensures in
    let lack : lack_by (need_at ns site.callee) (sizes_of m) (stack_sizes m.used_ctrl m.used_temp) ≡ Temporary =
    sym (c.lack.ensures ∙ ap (λ (k : ℕ). lack_by (need_at ns k) (sizes_of m) (stack_sizes m.used_ctrl m.used_temp)) callee) ∙ c.in-Temporary.is in
    let top = c.requires.turn in
    lacks_temporary m ns site top.0 c.requires.needs there top.1 c.requires.held.top.used_words lack

pub raise_space-requires-in-Control-clause-turn : goal.raise_space-requires-in-Control-clause-turn
raise_space-requires-in-Control-clause-turn g c =
    let m = c.args.self.now in
    let ns = c.args.needs.now.procedures.items in
    let site = c.args.site.value in
    let there : site.callee < length (seen_program m.program).procs = omega (arith, c.requires.callee, length-map m.program.procedures.items seen_proc) in
    let callee : c.deref.result.now.callee ≡ site.callee = ap (λ (s : CallSite). s.callee) c.deref.ensures in
    let lack : lack_by (need_at ns site.callee) (sizes_of m) (stack_sizes m.used_ctrl m.used_temp) ≡ Control =
    sym (c.lack.ensures ∙ ap (λ (k : ℕ). lack_by (need_at ns k) (sizes_of m) (stack_sizes m.used_ctrl m.used_temp)) callee) ∙ c.in-Control.is in
    let top = c.requires.turn in
    lacks_control m ns site top.0 c.requires.needs there top.1 c.requires.held.top.used_words lack
