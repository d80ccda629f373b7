-- What is proved of a program, in the memory of its image.
use Rattle.std.{proofs.Common.{◌≡◌, ℕ, suc, List, Option, Some, None, Ok, refl, sym, ap, ◌∙◌, subst}, specs.Prelude.option_map}
use Rattle.stack_text.{specs.declared.breach.Breach.Breach, specs.Breaches.least, specs.Values.ValueOf}
use Rattle.fm_image.specs.Image.{ImageOf}
use Rattle.gypsy_syntax.{specs.GypsyReading.gypsy_in, specs.Programs.{Program, proc_at}, specs.Resolved.program_of, specs.Sources.SourceOf}
use Rattle.gypsy_syntax.specs.ValuesFit.{VarsFit}
use Rattle.gypsy_check.specs.Rules.{violations}
use Rattle.gypsy_space.{specs.Costs.Tally, specs.Needs.{StackSizes, stack_sizes}}
use Rattle.gypsy_semantics.{specs.Calls.CurrentCondition, specs.Meaning.{Done, Unfinished, meaning}, specs.Counted.{CountedOutcome, CountedDone}}
use Rattle.gypsy_semantics.{specs.Counted.{CountedUnfinished, uncounted, tally_of, counted_meaning}, proofs.CountLaws.meaning-uncounted, specs.Machine.State}
use Rattle.gypsy_semantics.{specs.Machine.{Move, Next, Ended, start}, specs.Views.Moments.{moment_from, NeverEnds}, proofs.Runs.agree}
use Rattle.gypsy_logic.{specs.Counts.{MeansAfter, IsAfter}, specs.Endless.IsEndless, specs.Ends.{Means, Is}}
use Rattle.gypsy_codegen.proofs.MomentLaws.{moment_over}
use Rattle.stack_build.{specs.Build.{accepted_unless, accepted_by, accepted_source, BuiltOf, BuildsText}, specs.Formals.{shown_names, formal_conditions}}
use Rattle.stack_build.{specs.Implements.{Finishes, Implements, FitsFormals, meaning_shown}, specs.ComesTo.ComesTo, specs.StaysUnfinished.StaysUnfinished}
use Rattle.program_images.{specs.Shows.{Shows, RunsOn}, specs.TextPrograms.{source_of_text, IsText, ImplementsText, reading_of}}
use Rattle.display_maps.specs.Reading.{ReadingOf}

module _ (source : SourceOf) (sizes : StackSizes) (values finals : List ValueOf) (way : CurrentCondition) (n : ℕ) where
  -- a meaning that is done has a count
  counted : (o : CountedOutcome) → counted_meaning (program_of source) sizes values n ≡ o → meaning (program_of source) sizes values n ≡ Done finals way
      → (count : ℕ) × Finishes source sizes values finals way count
  counted (CountedDone x c t) e done =
      (t.count, record { bound = n; done = done; counted = ap (λ (o : CountedOutcome). option_map (λ (t : Tally). t.count) (tally_of o)) e })
  counted CountedUnfinished e done =
      absurd (let same : Unfinished ≡ Done finals way = sym (ap uncounted e) ∙ meaning-uncounted (program_of source) sizes values n ∙ done in cc)

pub means_shown : (image : ImageOf) (source : SourceOf) (sizes : StackSizes) (values finals : List ValueOf) (way : CurrentCondition)
    → Implements image source sizes → FitsFormals source values → Means (program_of source) sizes values (Is finals way)
    → Shows image values (meaning_shown source finals way)
means_shown image source sizes values finals way implements fits m =
    let done : meaning (program_of source) sizes values m.bound ≡ Done finals way =
    m.done ∙ ap (λ (x : List ValueOf). Done x m.way) m.holds.0 ∙ ap (Done finals) m.holds.1 in
    let f = counted source sizes values finals way m.bound (counted_meaning (program_of source) sizes values m.bound) refl done in
    record { count = f.0; comes = implements values finals way f.0 fits f.1 }

pub means_shown_after : (image : ImageOf) (source : SourceOf) (sizes : StackSizes) (values finals : List ValueOf) (way : CurrentCondition) (count : ℕ)
    → Implements image source sizes → FitsFormals source values → MeansAfter (program_of source) sizes values (IsAfter finals way count)
    → ComesTo image values count (meaning_shown source finals way)
means_shown_after image source sizes values finals way count implements fits m =
    let done : meaning (program_of source) sizes values m.bound ≡ Done finals way =
    sym (meaning-uncounted (program_of source) sizes values m.bound) ∙ ap uncounted m.done ∙ ap (λ (x : List ValueOf). Done x m.way) m.holds.0
    ∙ ap (Done finals) m.holds.1 in
    let counted = ap (λ (o : CountedOutcome). option_map (λ (t : Tally). t.count) (tally_of o)) m.done ∙ ap Some m.holds.2 in
    implements values finals way count fits record { bound = m.bound; done = done; counted = counted }

-- ---- programs that never end

-- a meaning that is done at no bound has no last moment
pub never_done : (q : Program) (sizes : StackSizes) (v : List ValueOf) → ((n : ℕ) → meaning q sizes v n ≡ Unfinished) → NeverEnds q sizes v
never_done q sizes v never j = pick (moment_from q sizes v j) refl
  where
    pick : (m : Move) → moment_from q sizes v j ≡ m → (g : State) × (m ≡ Next g)
    pick (Next g) e = (g, refl)
    pick (Ended x c t) e =
        let over = (agree q sizes v).ended j x c t (moment_over q sizes j (start q v) x c t e) in
        absurd (let f : Unfinished ≡ Done x c = sym (never (suc j)) ∙ sym (meaning-uncounted q sizes v (suc j)) ∙ ap uncounted over in cc)

pub never_ends_unfinished : (image : ImageOf) (source : SourceOf) (sizes : StackSizes) (values : List ValueOf) → StaysUnfinished image source sizes
    → FitsFormals source values → IsEndless (program_of source) sizes values → RunsOn image values
never_ends_unfinished image source sizes values stays fits endless budget =
    stays values budget fits (never_done (program_of source) sizes values endless.unfinished)

-- ---- from a text

accepted_is : (s t : SourceOf) (breach : Option Breach) → accepted_unless s breach ≡ Ok t → t ≡ s
accepted_is s t None e = cc
accepted_is s t (Some b) e = cc

pub one_source : (text : List ℕ) (s t : SourceOf) → gypsy_in text ≡ Ok s → accepted_source text ≡ Ok t → t ≡ s
unfolding accepted_source
one_source text s t form read = accepted_is s t (least (violations s)) (sym (ap accepted_by form) ∙ read)

-- the source of a text that was built, with a program, the names and the conditions that the text has
record SourceOfText (q : Program) (names conditions : List (List ℕ)) (sizes : StackSizes) (image : ImageOf) (values : List ValueOf) : Type 0 where
  source : SourceOf
  resolves : program_of source ≡ q
  names_are : shown_names source ≡ names
  conditions_are : formal_conditions source ≡ conditions
  implements : Implements image source sizes
  unfinished : StaysUnfinished image source sizes
  fits : FitsFormals source values

of_text : {text : List ℕ} {q : Program} {names conditions : List (List ℕ)} {sizes : StackSizes} {image : ImageOf} {values : List ValueOf}
    → IsText text q names conditions → ImplementsText text sizes image → VarsFit (proc_at q q.main).formals values
    → SourceOfText q names conditions sizes image values
of_text {text = text} {q = q} {sizes = sizes} {image = image} {values = values} is builds fits =
    let same = one_source text (source_of_text text) builds.source is.reads builds.read in
    record {
      source = source_of_text text;
      resolves = is.resolves;
      names_are = is.names_are;
      conditions_are = is.conditions_are;
      implements = subst (λ (s : SourceOf). Implements image s sizes) same builds.implements;
      unfinished = subst (λ (s : SourceOf). StaysUnfinished image s sizes) same builds.unfinished;
      fits = subst (λ (p : Program). VarsFit (proc_at p p.main).formals values) (sym is.resolves) fits;
    }

-- what is built of a text
pub built_text : {text : List ℕ} {ctrl temp : ℕ} {built : BuiltOf} → BuildsText text ctrl temp built
    → ImplementsText text (stack_sizes ctrl temp) built.image
built_text builds =
    record { source = builds.source; read = builds.read; implements = builds.builds.implements; unfinished = builds.builds.unfinished }

module _ {q : Program} {names conditions : List (List ℕ)} {sizes : StackSizes} {image : ImageOf} {values : List ValueOf} where
  -- what is read of memory, by these names and conditions
  by_names : (o : SourceOfText q names conditions sizes image values) (finals : List ValueOf) (way : CurrentCondition) (P : ReadingOf → Type 0)
      → P (meaning_shown o.source finals way) → P (reading_of names conditions finals way)
  by_names o finals way P h =
      subst (λ (ns : List (List ℕ)). P (reading_of ns conditions finals way)) o.names_are
      (subst (λ (cs : List (List ℕ)). P (reading_of (shown_names o.source) cs finals way)) o.conditions_are h)

-- An image that implements a text whose program means this: its memory shows it, whatever the sizes and the window.
pub shown_in : {text : List ℕ} {q : Program} {names conditions : List (List ℕ)} {sizes : StackSizes} {image : ImageOf} {values finals : List ValueOf}
    {way : CurrentCondition} → IsText text q names conditions → ImplementsText text sizes image → VarsFit (proc_at q q.main).formals values
    → Means q sizes values (Is finals way) → Shows image values (reading_of names conditions finals way)
shown_in {sizes = sizes} {image = image} {values = values} {finals = finals} {way = way} is builds fits means =
    let o = of_text is builds fits in
    by_names o finals way (Shows image values)
    (means_shown image o.source sizes values finals way o.implements o.fits
    (subst (λ (p : Program). Means p sizes values (Is finals way)) (sym o.resolves) means))

-- the same with the number of instructions
pub shown_after_in : {text : List ℕ} {q : Program} {names conditions : List (List ℕ)} {sizes : StackSizes} {image : ImageOf}
    {values finals : List ValueOf} {way : CurrentCondition} {count : ℕ} → IsText text q names conditions → ImplementsText text sizes image
    → VarsFit (proc_at q q.main).formals values
    → MeansAfter q sizes values (IsAfter finals way count) → ComesTo image values count (reading_of names conditions finals way)
shown_after_in {sizes = sizes} {image = image} {values = values} {finals = finals} {way = way} {count = count} is builds fits means =
    let o = of_text is builds fits in
    by_names o finals way (ComesTo image values count)
    (means_shown_after image o.source sizes values finals way count o.implements o.fits
    (subst (λ (p : Program). MeansAfter p sizes values (IsAfter finals way count)) (sym o.resolves) means))

-- one of a text whose program never ends on the values is unfinished at every budget
pub runs_on_in : {text : List ℕ} {q : Program} {names conditions : List (List ℕ)} {sizes : StackSizes} {image : ImageOf} {values : List ValueOf}
    → IsText text q names conditions → ImplementsText text sizes image → VarsFit (proc_at q q.main).formals values
    → IsEndless q sizes values → RunsOn image values
runs_on_in {sizes = sizes} {image = image} {values = values} is builds fits endless =
    let o = of_text is builds fits in
    never_ends_unfinished image o.source sizes values o.unfinished o.fits
    (subst (λ (p : Program). IsEndless p sizes values) (sym o.resolves) endless)
