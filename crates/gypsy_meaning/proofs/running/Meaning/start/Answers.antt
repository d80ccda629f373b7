use Rattle.std.proofs.Common.{◌≡◌, ◌+◌, ◌<◌, List, length, map, refl, sym, subst, ap, ◌∙◌, arith, None}
use Rattle.stack_text.{specs.declared.name.Name.Name, specs.declared.value.Value.Value, specs.Values.ValueOf}
use Rattle.gypsy_syntax.{specs.Programs.{proc_at, words_of}, specs.Resolved.program_of, specs.Views.SourceView.source_of, specs.ValuesFit.VarsFit}
use Rattle.gypsy_space.{specs.Nodes.seen_program, specs.Needs.stack_sizes}
use Rattle.gypsy_semantics.{specs.Calls.main_start, specs.Views.RunView.opening}
use Rattle.gypsy_meaning.{specs.Views.Belongs.BelongsTo, specs.Views.Running.seen, specs.Views.Named.{proc_names, seen_names, variables_of}}
use Rattle.gypsy_meaning.{specs.declared.names.Names.Names, specs.declared.running.Meaning.Meaning, proofs.StartLaws.{belongs, main_sized, main_there}}
use Rattle.gypsy_meaning.{proofs.StartLaws.{main_words, opens}, proofs.running.Meaning.start.Given.Over, proofs.running.Meaning.start.Goals.After-new-2}
use Rattle.gypsy_meaning.proofs.running.Meaning.start.Goals as goal

pub main_activation-requires-clause-there : goal.main_activation-requires-clause-there
main_activation-requires-clause-there g c =
    let s = source_of c.args.accepted.now in
    let names : map seen_names c.in_ok-names.names.items ≡ map proc_names s.procs =
    c.in_ok-names.ensures ∙ ap (λ a. map proc_names (source_of a).procs) c.source.ensures.value in
    let there = main_there s c.source.ensures.accepted c.in_ok-program.program c.in_ok-program.ensures.program c.in_ok-names.names.items names in
    let P : List Names → Type 0 = λ t. c.in_ok-program.program.main < length t in
    subst P (sym c.as_slice.ensures.value) there

pub main_activation-requires-clause-sized : goal.main_activation-requires-clause-sized
main_activation-requires-clause-sized g c =
    let s = source_of c.args.accepted.now in
    let code = c.in_ok-program.program in
    let names : map seen_names c.in_ok-names.names.items ≡ map proc_names s.procs =
    c.in_ok-names.ensures ∙ ap (λ a. map proc_names (source_of a).procs) c.source.ensures.value in
    let sized =
    main_sized s c.source.ensures.accepted code c.in_ok-program.ensures.program c.in_ok-names.names.items c.args.values.now names c.requires.values in
    let P : List Names → Type 0 = λ t. length (variables_of t code.main) ≡ length c.args.values.now + length (proc_at (seen_program code) code.main).locals in
    subst P (sym c.as_slice.ensures.value) sized

pub words-used_temp-requires : goal.words-used_temp-requires
words-used_temp-requires g c =
    let s = source_of c.args.accepted.now in
    let vars : map (λ v. v.1) c.as_slice-2.result.now ≡ main_start (seen_program c.in_ok-program.program) c.args.values.now =
    ap (λ (l : List (Name × Value)). map (λ v. v.1) l) c.as_slice-2.ensures.value ∙ c.in_ok-variables.ensures.variables in
    main_words s c.source.ensures.accepted c.in_ok-program.program c.in_ok-program.ensures.program c.as_slice-2.result.now c.args.values.now
    c.requires.values vars

-- the run that is made
abbrev run_of : (g : Over) → After-new-2 g → Meaning
run_of g c = record {
  program = c.in_ok-program.program;
  names = c.in_ok-names.names;
  unnamed = c.new.result;
  values = c.in_ok-values.values;
  temp = c.args.temp;
  ctrl = c.args.ctrl;
  procedure = c.in_ok-program.program.main;
  variables = c.in_ok-variables.field-0.variables;
  work = c.in_ok-variables.field-0.work;
  used_temp = c.words-used_temp.result;
  used_ctrl = c.len.result + 2;
  waiting = c.new-2.result;
  steps = 0;
  counted = 0;
  cost = 0;
  ending = None;
}

-- it has opened with these values and sizes, and belongs to the source
record Started (g : Over) (c : After-new-2 g) : Type 0 where
  run_opens : seen (run_of g c) ≡ opening (program_of (source_of c.args.accepted.now)) (stack_sizes c.args.ctrl c.args.temp) c.args.values.now
  run_belongs : BelongsTo (source_of c.args.accepted.now) c.args.needs.now.procedures.items (run_of g c)

started : (g : Over) (c : After-new-2 g) → Started g c
started g c =
    let s = source_of c.args.accepted.now in
    let q = program_of s in
    let m = run_of g c in
    let P : List ValueOf → Type 0 = VarsFit (proc_at q q.main).formals in
    let fit : VarsFit (proc_at q q.main).formals m.values.items = subst P (sym c.in_ok-values.ensures) c.requires.values in
    let names : map seen_names m.names.items ≡ map proc_names s.procs =
    c.in_ok-names.ensures ∙ ap (λ a. map proc_names (source_of a).procs) c.source.ensures.value in
    let vars : map (λ v. v.1) m.variables.items ≡ main_start (seen_program m.program) m.values.items =
    c.in_ok-variables.ensures.variables ∙ ap (main_start (seen_program m.program)) (sym c.in_ok-values.ensures) in
    let named : map (λ v. v.0) m.variables.items ≡ variables_of m.names.items m.program.main =
    c.in_ok-variables.ensures.names ∙ ap (λ (t : List Names). variables_of t m.program.main) c.as_slice.ensures.value in
    let temp : m.used_temp ≡ words_of (map (λ v. v.shape) (map (λ v. v.1) m.variables.items)) =
    c.words-used_temp.ensures ∙ ap (λ (l : List (Name × Value)). words_of (map (λ v. v.shape) (map (λ v. v.1) l))) c.as_slice-2.ensures.value in
    let ctrl : m.used_ctrl ≡ length m.variables.items + 2 = omega (arith, c.len.ensures, m.variables.ok) in
    record {
      run_opens =
          opens s m c.source.ensures.accepted c.in_ok-program.ensures.program names fit refl vars named c.in_ok-variables.ensures.work
          c.new-2.ensures.items refl refl refl refl
          ∙ ap (opening q (stack_sizes c.args.ctrl c.args.temp)) c.in_ok-values.ensures;
      run_belongs =
          belongs s m c.source.ensures.accepted c.in_ok-program.ensures.program names fit refl vars named c.in_ok-variables.ensures.work
          c.new-2.ensures.items refl c.args.needs.now.procedures.items c.requires.needs c.requires.small c.requires.sizes c.new.ensures
          refl refl refl temp ctrl;
    }

pub returns-clause-opening : goal.returns-clause-opening
returns-clause-opening g c = (started g c).run_opens

pub returns-clause-belongs : goal.returns-clause-belongs
returns-clause-belongs g c = (started g c).run_belongs
