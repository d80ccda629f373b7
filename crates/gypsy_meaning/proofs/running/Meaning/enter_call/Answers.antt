use Rattle.std.{proofs.Common.{◌≡◌, ℕ, ◌<◌, ◌+◌, List, [], length, map, drop, sym, ap, ap₂, ◌∙◌, arith}, proofs.lemmas.List.length-map}
use Rattle.gypsy_syntax.specs.Programs.{body_of, proc_at}
use Rattle.gypsy_space.{specs.Nodes.{seen_proc, seen_program}, specs.declared.program.CallSite.CallSite}
use Rattle.gypsy_semantics.specs.Machine.{open_on}
use Rattle.gypsy_meaning.{specs.Views.Named.variables_of, specs.Views.Running.paid, specs.Views.Work.work_of, specs.declared.names.Names.Names}
use Rattle.gypsy_meaning.proofs.CallingLaws.{after_call, enters}
use Rattle.gypsy_meaning.proofs.running.Meaning.enter_call.Goals as goal

pub wait-requires-clause-few : goal.wait-requires-clause-few
wait-requires-clause-few g c =
    let m = c.args.self.now in
    let site = c.args.site.value in
    let callee_vars = c.in_ok-variables.field-0.variables in
    let named : map (λ v. v.0) callee_vars.items ≡ variables_of m.names.items site.callee =
    c.in_ok-variables.ensures.names
    ∙ ap (λ (s : CallSite). variables_of c.as_slice.result.now s.callee) c.deref-2.ensures
    ∙ ap (λ (t : List Names). variables_of t site.callee) c.as_slice.ensures.value in
    let number : length callee_vars.items ≡ length (variables_of m.names.items site.callee) = sym (length-map callee_vars.items (λ v. v.0)) ∙ ap length named in
    let sized : length (variables_of m.names.items site.callee) ≡ length site.actuals.items
    + length (proc_at (seen_program m.program) site.callee).locals = c.requires.sized in
    omega (arith, number, sized)

pub returns-clause-done : goal.returns-clause-done
returns-clause-done g c =
    let m = c.args.self.now in
    let q = seen_program m.program in
    let ns = c.args.needs.now.procedures.items in
    let site = c.args.site.value in
    let there : site.callee < length (seen_program m.program).procs = omega (arith, c.requires.callee, length-map m.program.procedures.items seen_proc) in
    let callee : c.deref.result.now.callee ≡ site.callee = ap (λ (s : CallSite). s.callee) c.deref.ensures in
    let a = c.wait.new.self in
    let callee_vars = c.in_ok-variables.field-0.variables in
    let w = c.in_ok-variables.field-0.work in
    let locals : drop (length site.actuals.items) (map (λ v. v.1) callee_vars.items) ≡ (proc_at q site.callee).locals =
    ap (λ (s : CallSite). drop (length s.actuals.items) (map (λ v. v.1) callee_vars.items)) (sym c.deref-2.ensures)
    ∙ c.in_ok-variables.ensures.locals
    ∙ ap (λ (s : CallSite). (proc_at q s.callee).locals) c.deref-2.ensures in
    let named : map (λ v. v.0) callee_vars.items ≡ variables_of m.names.items site.callee =
    c.in_ok-variables.ensures.names
    ∙ ap (λ (s : CallSite). variables_of c.as_slice.result.now s.callee) c.deref-2.ensures
    ∙ ap (λ (t : List Names). variables_of t site.callee) c.as_slice.ensures.value in
    let body : work_of w ≡ open_on (body_of q site.callee) [] =
    c.in_ok-variables.ensures.work ∙ ap (λ (s : CallSite). open_on (body_of q s.callee) []) c.deref-2.ensures in
    let top = c.requires.turn in
    let waits = c.in_ok-wait.ensures.done top.0 top.1 in
    let final : c.pay.new.self ≡ after_call ns site.callee a =
    c.pay.ensures ∙ ap₂ paid c.cost.ensures.count c.use_words.ensures
    ∙ ap (λ (k : ℕ). after_call ns k a) callee in
    enters m a ns c.args.site top.0 w callee_vars c.requires.needs there top.1 c.requires.held c.requires.room locals named body waits c.pay.new.self
    final (omega arith) (omega arith)
