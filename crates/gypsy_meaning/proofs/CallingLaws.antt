-- The call of a procedure.
use Rattle.std.proofs.Common.{◌≡◌, ℕ, ◌+◌, ◌^◌, ◌<◌, ◌≤◌, max, List, [], ◌∷◌, ◌++◌, length, map, drop, refl, sym, ap, ap₂, ◌∙◌, subst, reverse, arith}
use Rattle.std.{specs.declared.alloc.Global.Global, specs.declared.rc.Rc.Rc, specs.Global.Vec, proofs.lemmas.Bool.leb-true, proofs.lemmas.List.length-map}
use Rattle.std.proofs.lemmas.List.{reverse-append}
use Rattle.stack_text.{specs.Values.ValueOf, specs.declared.name.Name.Name, specs.declared.value.Value.Value}
use Rattle.gypsy_syntax.{specs.Effects.value_at, specs.Programs.{Program, body_of, proc_at}}
use Rattle.gypsy_space.{specs.Costs.{Tally, start_tally}, specs.Needs.{call_spend, lack_of, stack_sizes, with_call}, specs.Nodes.{seen_cond, seen_program}}
use Rattle.gypsy_space.{specs.Events.{AreNeeds, event_count, has_ctrl_room_by, has_temp_room_by, lack_by, need_at, need_of}, specs.declared.need.Lack.Lack}
use Rattle.gypsy_space.{specs.declared.need.Lack.TheVariants.{Nothing, Temporary, Control}, specs.declared.need.Need.Need}
use Rattle.gypsy_space.{specs.declared.program.CallSite.CallSite, proofs.EventLaws.{call_table, lack_same}}
use Rattle.gypsy_space.specs.declared.event.CostEvent.TheVariants as event
use Rattle.gypsy_meaning.{specs.Internal.Entering.{RaisesSpace, Waits, call_top, with_words}, specs.Views.Held.{AreActivations, IsActivation, IsHeld, Moves}}
use Rattle.gypsy_meaning.{specs.Views.Named.variables_of, specs.Views.Running.{Goes, frames_in, frames_of, kept_frames, sizes_of, state_of, paid}}
use Rattle.gypsy_meaning.{specs.Views.Work.work_of, specs.declared.names.Names.Names, specs.declared.running.Frame.Frame}
use Rattle.gypsy_meaning.{specs.declared.running.Meaning.Meaning, specs.declared.work.Item.Item as Kept, proofs.ReturningLaws.{kept_frames-push, same_state}}
use Rattle.gypsy_semantics.{specs.Calls.{copied_in, copied_out}, specs.Machine.{Item, At, call_step, gypsy_step, open_on, used}, specs.Views.RunView.added}
use Rattle.gypsy_semantics.{specs.Views.RunView.handed_back, proofs.LendingLaws.{back_again, copied_again, length-copied_out, used_back}, proofs.Rooms.rooms}
use Rattle.gypsy_semantics.specs.Machine as machine

module _ (m : Meaning) (ns : List Need) (site : CallSite) (below : List Item) (needs : AreNeeds (seen_program m.program) ns)
    (there : site.callee < length (seen_program m.program).procs)
    (turn : work_of m.work ≡ call_top site ∷ below)
    (counts : used (seen_program m.program) m.procedure (kept_frames m.waiting.items) ≡ stack_sizes m.used_ctrl m.used_temp) where
  abbrev q : Program
  q = seen_program m.program

  abbrev x : List ValueOf
  x = map (λ v. v.1) m.variables.items

  pub lack_is : lack_of q (sizes_of m) site.callee (used q m.procedure (frames_in m))
      ≡ lack_by (need_at ns site.callee) (sizes_of m) (stack_sizes m.used_ctrl m.used_temp)
  lack_is =
      ap (lack_of q (sizes_of m) site.callee) (used_back q m.procedure x (kept_frames m.waiting.items) ∙ counts)
      ∙ lack_same q (sizes_of m) site.callee (stack_sizes m.used_ctrl m.used_temp)
      ∙ ap (λ (n : Need). lack_by n (sizes_of m) (stack_sizes m.used_ctrl m.used_temp)) (sym (needs.each site.callee there))

  -- the step by what the call lacks
  pub call_steps : (l : Lack) → lack_by (need_at ns site.callee) (sizes_of m) (stack_sizes m.used_ctrl m.used_temp) ≡ l →
      gypsy_step q (sizes_of m) (state_of m) ≡ call_step q l site.callee site.actuals.items (map seen_cond site.conds.items) m.procedure x below
      (frames_in m) start_tally
  call_steps l h =
      ap (λ (w : List Item). gypsy_step q (sizes_of m) (At m.procedure x w (frames_in m) start_tally)) turn
      ∙ ap (λ (k : Lack). call_step q k site.callee site.actuals.items (map seen_cond site.conds.items) m.procedure x below (frames_in m) start_tally)
      (lack_is ∙ h)

  pub lacks_temporary : lack_by (need_at ns site.callee) (sizes_of m) (stack_sizes m.used_ctrl m.used_temp) ≡ Temporary → RaisesSpace m event.LackTemporary
  lacks_temporary h = (call_top site, below, turn, call_steps Temporary h)

  pub lacks_control : lack_by (need_at ns site.callee) (sizes_of m) (stack_sizes m.used_ctrl m.used_temp) ≡ Control → RaisesSpace m event.LackControl
  lacks_control h = (call_top site, below, turn, call_steps Control h)

-- the state after the step, from the one in which the caller waits
abbrev pub after_call : List Need → ℕ → Meaning → Meaning
after_call ns callee a = paid (event_count ns (event.Call callee)) (with_words (need_at ns callee) (record a { procedure = callee }))

module _ (m a : Meaning) (ns : List Need) (site : Rc CallSite Global) (below : List Item) (w : List Kept) (callee : Vec (Name × Value))
    (needs : AreNeeds (seen_program m.program) ns) (there : site.value.callee < length (seen_program m.program).procs)
    (turn : work_of m.work ≡ call_top site.value ∷ below) (held : IsHeld m)
    (room : lack_by (need_at ns site.value.callee) (sizes_of m) (stack_sizes m.used_ctrl m.used_temp) ≡ Nothing)
    (locals : drop (length site.value.actuals.items) (map (λ v. v.1) callee.items) ≡ (proc_at (seen_program m.program) site.value.callee).locals)
    (named : map (λ v. v.0) callee.items ≡ variables_of m.names.items site.value.callee)
    (body : work_of w ≡ open_on (body_of (seen_program m.program) site.value.callee) []) (waits : Waits m callee w below site a) where
  abbrev after : Meaning
  after = after_call ns site.value.callee a

  program_is : a.program ≡ m.program
  program_is = ap (λ (k : Meaning). k.program) waits.others

  names_are : a.names ≡ m.names
  names_are = ap (λ (k : Meaning). k.names) waits.others

  values_are : map (λ v. v.1) a.variables.items ≡ copied_in (seen_program m.program) site.value.callee site.value.actuals.items
      (map (λ v. v.1) m.variables.items)
  unfolding copied_in
  values_are = waits.lent ∙ ap (λ (l : List ValueOf). map (value_at (map (λ v. v.1) m.variables.items)) site.value.actuals.items ++ l) locals

  sized : length (map (λ v. v.1) callee.items) ≡ length (map (λ v. v.1) a.variables.items)
  sized =
      length-map callee.items (λ v. v.1)
      ∙ sym (length-map callee.items (λ v. v.0))
      ∙ ap length (sym waits.lent_names)
      ∙ length-map a.variables.items (λ v. v.0)
      ∙ sym (length-map a.variables.items (λ v. v.1))

  lent_back : copied_out site.value.actuals.items (map (λ v. v.1) a.variables.items) (map (λ v. v.1) waits.caller.items) ≡
      copied_out site.value.actuals.items (copied_in (seen_program m.program) site.value.callee site.value.actuals.items
      (map (λ v. v.1) m.variables.items)) (map (λ v. v.1) m.variables.items)
  lent_back =
      let xs = site.value.actuals.items in
      let x = map (λ v. v.1) m.variables.items in
      let y = map (λ v. v.1) a.variables.items in
      ap (copied_out xs y) waits.left
      ∙ copied_again xs (map (λ v. v.1) callee.items) y x sized
      ∙ ap (λ (l : List ValueOf). copied_out xs l x) values_are

  kept_are : kept_frames a.waiting.items ≡ machine.Held m.procedure (map (λ v. v.1) waits.caller.items) (below) site.value.actuals.items
      (map seen_cond site.value.conds.items) ∷ kept_frames m.waiting.items
  kept_are =
      ap kept_frames waits.waiting
      ∙ kept_frames-push m.waiting.items _
      ∙ ap (λ (l : List Item). machine.Held m.procedure (map (λ v. v.1) waits.caller.items) l site.value.actuals.items
      (map seen_cond site.value.conds.items) ∷ kept_frames m.waiting.items) waits.behind_is

  frames_are : let z = copied_out site.value.actuals.items
      (copied_in (seen_program m.program) site.value.callee site.value.actuals.items (map (λ v. v.1) m.variables.items))
      (map (λ v. v.1) m.variables.items) in
      frames_in a ≡ machine.Held m.procedure z (below) site.value.actuals.items (map seen_cond site.value.conds.items) ∷ frames_of z m.waiting.items
  frames_are =
      ap (handed_back (map (λ v. v.1) a.variables.items)) kept_are
      ∙ ap (λ (l : List ValueOf). machine.Held m.procedure l (below) site.value.actuals.items (map seen_cond site.value.conds.items)
      ∷ frames_of l m.waiting.items) lent_back

  enter_goes : Goes (seen_program m.program) (sizes_of m) m after
  enter_goes =
      let r = seen_program m.program in
      let c = site.value.callee in
      let xs = site.value.actuals.items in
      let cs = map seen_cond site.value.conds.items in
      let x = map (λ v. v.1) m.variables.items in
      let y = copied_in r c xs x in
      let z = copied_out xs y x in
      let u : Tally = call_spend r c start_tally in
      let shown : a.counted ≡ m.counted = ap (λ (k : Meaning). k.counted) waits.others in
      let spent : u.count ≡ 0 + event_count ns (event.Call c) = call_table r ns needs c there start_tally in
      let cost : event_count ns (event.Call c) ≡ u.count = omega (arith, spent) in
      let again : machine.Held m.procedure z (below) xs cs ∷ handed_back z (frames_in m) ≡ frames_in a =
      ap (λ (l : List machine.Frame). machine.Held m.procedure z (below) xs cs ∷ l)
      (back_again x z (kept_frames m.waiting.items) (sym (length-copied_out xs y x)))
      ∙ sym frames_are in (
        At c y (open_on (body_of r c) []) (machine.Held m.procedure x (below) xs cs ∷ frames_in m) u,
        call_steps m ns site.value below needs there turn held.top.used_words Nothing room,
        same_state c c y (map (λ v. v.1) a.variables.items) (open_on (body_of r c) []) (work_of a.work)
            (machine.Held m.procedure z (below) xs cs ∷ handed_back z (frames_in m)) (frames_in a) start_tally
            refl (sym values_are) (sym (ap work_of waits.work_is ∙ body)) again,
        record { counted = ap₂ added shown cost; last = cost },
      )

  enter_uses : m.temp < 2 ^ 32 → m.ctrl < 2 ^ 32 → used (seen_program a.program) site.value.callee (kept_frames a.waiting.items)
      ≡ stack_sizes after.used_ctrl after.used_temp
  unfolding lack_by with_call
  enter_uses lt_temp lt_ctrl =
      let n = need_at ns site.value.callee in
      let c = site.value.callee in
      let r = seen_program m.program in
      let parts = rooms (has_temp_room_by n m.temp m.used_temp) (has_ctrl_room_by n m.ctrl m.used_ctrl) room in
      let temp : m.used_temp + max (n.locals_words + n.vars) (n.locals_words + n.temp) ≤ m.temp = leb-true _ _ parts.0 in
      let ctrl : m.used_ctrl + (2 + n.vars + n.ctrl) ≤ m.ctrl = leb-true _ _ parts.1 in
      let same_temp : a.used_temp ≡ m.used_temp = ap (λ (k : Meaning). k.used_temp) waits.others in
      let same_ctrl : a.used_ctrl ≡ m.used_ctrl = ap (λ (k : Meaning). k.used_ctrl) waits.others in
      let exact : n ≡ need_of r c = needs.each c there in
      let new_temp : after.used_temp ≡ m.used_temp + n.locals_words = omega (arith, temp, lt_temp, same_temp) in
      let new_ctrl : after.used_ctrl ≡ m.used_ctrl + (2 + n.vars) = omega (arith, ctrl, lt_ctrl, same_ctrl) in
      ap (λ (p : _). used (seen_program p) c (kept_frames a.waiting.items)) program_is
      ∙ ap (used r c) kept_are
      ∙ ap (with_call r c) held.top.used_words
      ∙ ap₂ stack_sizes
      (ap (λ (k : Need). m.used_ctrl + (2 + k.vars)) (sym exact) ∙ sym new_ctrl)
      (ap (λ (k : Need). m.used_temp + k.locals_words) (sym exact) ∙ sym new_temp)

  enter_waiting : AreActivations (seen_program a.program) a.names.items (reverse a.waiting.items)
  enter_waiting =
      let r = seen_program m.program in
      let names = m.names.items in
      let f : Frame = record {
        procedure = m.procedure;
        variables = waits.caller;
        work = waits.behind;
        call = site;
        used_temp = m.used_temp;
        used_ctrl = m.used_ctrl;
      } in
      let turned : reverse a.waiting.items ≡ f ∷ reverse m.waiting.items = ap reverse waits.waiting ∙ reverse-append m.waiting.items (f ∷ []) in
      let P : List Frame → Type 0 = AreActivations r names in
      let caller : IsActivation r names m.procedure waits.caller.items m.used_temp m.used_ctrl (kept_frames m.waiting.items) =
      record { named = waits.left_names ∙ held.top.named; used_words = held.top.used_words } in
      let all : P (f ∷ reverse m.waiting.items) = (caller, held.waiting) in
      let R : Program → Type 0 = λ p. AreActivations p a.names.items (reverse a.waiting.items) in
      let T : List Names → Type 0 = λ t. AreActivations r t (reverse a.waiting.items) in
      subst R (sym (ap seen_program program_is)) (subst T (sym (ap (λ t. t.items) names_are)) (subst P (sym turned) all))

  pub enters : (n : Meaning) → n ≡ after → m.temp < 2 ^ 32 → m.ctrl < 2 ^ 32 → Moves m n
  enters n is lt_temp lt_ctrl =
      let named_by = ap (λ t. variables_of t.items site.value.callee) names_are in
      let all : Moves m after = record {
        goes = enter_goes;
        keeps = record {
          program = program_is;
          temp = ap (λ (k : Meaning). k.temp) waits.others;
          ctrl = ap (λ (k : Meaning). k.ctrl) waits.others;
          values = ap (λ (k : Meaning). k.values) waits.others;
          names = names_are;
          unnamed = ap (λ (k : Meaning). k.unnamed) waits.others;
          steps = ap (λ (k : Meaning). added k.steps 1) waits.others;
        };
        ending = ap (λ (k : Meaning). k.ending) waits.others;
        held = λ _. record {
          top = record { named = waits.lent_names ∙ named ∙ sym named_by; used_words = enter_uses lt_temp lt_ctrl };
          waiting = enter_waiting;
        };
      } in
      subst (Moves m) (sym is) all
