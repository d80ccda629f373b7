-- Each moment of a quick image, and what the whole run takes.
use Rattle.std.{proofs.Common.{◌≡◌, ℕ, ◌+◌, List, [], ◌∷◌, ◌++◌, Some, None, sym, subst, arith}, specs.Prelude.option_map}
use Rattle.stack_text.specs.Values.{ValueOf}
use Rattle.fm_words.specs.Code.{no_flags}
use Rattle.fm_machine.specs.Run.{IsFirst, Avoids}
use Rattle.fm_loader.specs.Loaded.{loaded}
use Rattle.gypsy_check.specs.Accepted.{IsAccepted}
use Rattle.gypsy_syntax.{specs.Programs.{Proc, proc_at, body_of, shapes_of}, specs.Resolved.program_of, specs.Sources.SourceOf}
use Rattle.gypsy_space.{specs.Costs.{Tally, start_tally}, specs.Needs.StackSizes}
use Rattle.gypsy_semantics.{specs.Calls.{CurrentCondition, main_start, main_way}, specs.Machine.{Ended, start, open_on, At}, specs.Views.Moments.moment_from}
use Rattle.gypsy_semantics.specs.Meaning.{Done}
use Rattle.gypsy_codegen.specs.WordsOf.{number_of}
use Rattle.stack_build.specs.Implements.{FitsFormals}
use Rattle.quick_code.proofs.StandLaws.{comes_then}
use Rattle.quick_gypsy.{specs.Numbers.numbers_of, specs.Quick.{size, IsPlain}, specs.QuickRuns.{StandsWith, ComesWith, goal_of}}
use Rattle.quick_gypsy.proofs.PlainLaws.{lined_mains_are_plain}
use Rattle.quick_build.specs.QuickImage.{layout_in, exit_place, exit_numbers, exit_of, condition_cell, start_of, quick_main, quick_image, most_nested}
use Rattle.quick_build.{specs.QuickImplements.{exit_cost, bound_for, CanBeQuick}, proofs.ExitLaws.{exit_number, exit_there, exit_jumps}}
use Rattle.quick_build.proofs.MainLaws.{images_end_as_meant}
use Rattle.quick_moments.{specs.QuickShows.{Site, IsSite, ShowsQuick}, specs.QuickSteps.{ComesToMove, ComesToEnd, under_way_at}, proofs.PlainMainLaws.main_same}
use Rattle.quick_moments.specs.ImageMoments.{QuickImagesFollow, quick_program, quick_site, image_cost_to, QuickImagesShow, EndsAfter, QuickSumsAreCosts}
use Rattle.quick_moments.proofs.LoadedLaws.{ends_there, are_parts, is_layout, machine, begins_with, loaded_is, begun_fits, exits_there, code_there}
use Rattle.quick_moments.{proofs.OpenLaws.{Ahead, open_ahead, shows_ahead}, proofs.MomentLaws.quick_moments_show, proofs.EndLaws.{ended_once, quick_runs_end}}

module _ (vs : List ℕ) (s : SourceOf) (base end : ℕ) (sizes : StackSizes) (values : List ValueOf) (accepted : IsAccepted s)
    (can : CanBeQuick vs s sizes base end) (fits : FitsFormals s values) where
  abbrev p : Proc
  p = quick_main s sizes

  abbrev site : Site
  site = quick_site vs p base end

  is_site : IsSite site
  is_site = record {
    are_parts = are_parts vs can.ten p base end can.room can.words can.fits;
    is_layout = is_layout vs can.ten p base end can.room can.words can.fits;
  }

  -- the loaded machine shows the start
  begins_at : (n : ℕ)
      → ShowsQuick site (loaded (quick_image vs s sizes base end) values) None (At n (values ++ p.locals) (open_on p.body []) [] start_tally)
  begins_at n =
      let m = machine vs can.ten p base end can.room can.words can.fits (values ++ p.locals) in
      let begun = begun_fits vs s base end sizes values accepted can fits in
      let st : StandsWith site.parts site.table [] m (start_of p base) (values ++ p.locals) (2 ∷ []) =
      record { x3 = 0; fl = no_flags; stands = begins_with vs can.ten p base end can.room can.words can.fits (values ++ p.locals) begun } in
      let last : Ahead site (start_of p base + size (layout_in vs p end) p.body) [] = record { code = tt; plain = tt; ends = omega arith } in
      let ahead = open_ahead site p.body (start_of p base) [] (code_there vs s base end sizes values accepted can fits)
      (lined_mains_are_plain (program_of s) sizes most_nested accepted.fits can.nests) last in
      subst (λ z. ShowsQuick site z None (At n (values ++ p.locals) (open_on p.body []) [] start_tally))
      (sym (loaded_is vs s base end sizes values accepted can fits))
      (shows_ahead site m (start_of p base) n (values ++ p.locals) (open_on p.body []) start_tally ahead st begun)

  begins : ShowsQuick site (loaded (quick_image vs s sizes base end) values) None (start (quick_program s sizes) values)
  unfolding main_start
  begins = begins_at 0

  -- the source's own start, if main has no calls
  source_begins : IsPlain (shapes_of (proc_at (program_of s) (program_of s).main)) (body_of (program_of s) (program_of s).main)
      → ShowsQuick site (loaded (quick_image vs s sizes base end) values) None (start (program_of s) values)
  unfolding main_start
  source_begins plain =
      let q = program_of s in
      subst (λ (z : Proc). ShowsQuick site (loaded (quick_image vs s sizes base end) values) None (At q.main (values ++ z.locals) (open_on z.body [])
      [] start_tally)) (main_same q sizes most_nested plain) (begins_at q.main)

  shown : (j : ℕ) → ComesToMove site (quick_program s sizes) (image_cost_to vs s sizes end values j) (loaded (quick_image vs s sizes base end) values)
      (under_way_at (quick_program s sizes) sizes j None (start (quick_program s sizes) values)) (moment_from (quick_program s sizes) sizes values j)
  shown j = quick_moments_show site (quick_program s sizes) sizes (loaded (quick_image vs s sizes base end) values) None
      (start (quick_program s sizes) values) j is_site begins

  -- the machine first comes to the end after so many instructions, and what the meaning is then is what the run ended with
  ends : (finals : List ValueOf) (way : CurrentCondition) (j : ℕ) (t : Tally)
      → moment_from (quick_program s sizes) sizes values j ≡ Ended finals way t → (n : ℕ) (y : List ValueOf) (areas : List ℕ)
      → ComesWith site.parts site.table [] n (loaded (quick_image vs s sizes base end) values) site.end y areas
      → EndsAfter vs s base end sizes values finals way n
  ends finals way j t over n y areas h =
      let m = loaded (quick_image vs s sizes base end) values in
      let first : IsFirst m (quick_image vs s sizes base end).final_pc n h.comes.state = record {
        reached = h.comes.runs;
        there = h.comes.stands.r15_is;
        before = subst (λ a. Avoids m a n) (ends_there vs can.ten p base end can.room can.words can.fits) h.comes.avoids;
      } in
      let meant = images_end_as_meant vs s base end sizes values n h.comes.state accepted can fits first in
      let run = quick_runs_end vs s base end sizes values meant.finals meant.way (bound_for (n + 1)) accepted can fits meant.done in
      let same = ended_once (quick_program s sizes) sizes run.0 j (start (quick_program s sizes) values) meant.finals finals meant.way way run.1 t run.2 over in
      record { state = h.comes.state; first = first; meant = meant; finals_are = same.0; way_is = same.1 }

  -- behind the body at once, and by an exit elsewhere
  leaves : (finals : List ValueOf) (way : CurrentCondition) (j : ℕ) (t : Tally)
      → moment_from (quick_program s sizes) sizes values j ≡ Ended finals way t → (n : ℕ) (y : List ValueOf) (left : CurrentCondition)
      → way ≡ option_map (main_way (quick_program s sizes)) left
      → ComesWith site.parts site.table [] n (loaded (quick_image vs s sizes base end) values) (goal_of site.targets site.end left) y (2 ∷ [])
      → EndsAfter vs s base end sizes values finals way (n + exit_cost (Done finals way))
  leaves finals way j t over n y None e h =
      let none : n ≡ n + 0 = omega arith in
      subst (λ c. EndsAfter vs s base end sizes values finals way (n + exit_cost (Done finals c))) (sym e)
      (subst (EndsAfter vs s base end sizes values finals way) none (ends finals way j t over n y (2 ∷ []) h))
  leaves finals way j t over n y (Some d) e h =
      let cell = condition_cell p end in
      let number = number_of (main_way (program_of s) d) in
      let exit = exit_there site.parts cell site.end base (exit_numbers p.conds) (exit_of p.conds d) number (exit_number (program_of s) d)
      (exits_there vs s base end sizes values accepted can fits) in
      let jump = (exit_jumps site.parts site.table site.end number h.x3 h.fl (numbers_of y)).leads [] h.comes.state (exit_place base p.conds d)
      is_site.are_parts h.comes.stands exit in
      subst (λ c. EndsAfter vs s base end sizes values finals way (n + exit_cost (Done finals c))) (sym e)
      (ends finals way j t over (n + 3) y (number ∷ []) (record { x3 = cell; fl = h.fl; comes = comes_then h.comes jump }))

pub quick_images_show : QuickImagesShow
quick_images_show vs s base end sizes values j accepted can fits = shown vs s base end sizes values accepted can fits j

pub quick_images_follow : QuickImagesFollow
quick_images_follow vs s base end sizes values j accepted can fits plain =
    let q = program_of s in
    quick_moments_show (quick_site vs (quick_main s sizes) base end) q sizes (loaded (quick_image vs s sizes base end) values) None (start q values) j
    (is_site vs s base end sizes values accepted can fits) (source_begins vs s base end sizes values accepted can fits plain)

pub quick_sums_are_costs : QuickSumsAreCosts
quick_sums_are_costs vs s base end sizes values finals way t j accepted can fits e =
    let q = quick_program s sizes in
    let sum = image_cost_to vs s sizes end values j in
    let h : ComesToEnd (quick_site vs (quick_main s sizes) base end) q sum (loaded (quick_image vs s sizes base end) values) finals way =
    subst (ComesToMove (quick_site vs (quick_main s sizes) base end) q sum (loaded (quick_image vs s sizes base end) values)
    (under_way_at q sizes j None (start q values))) e (shown vs s base end sizes values accepted can fits j) in
    leaves vs s base end sizes values accepted can fits finals way j t e sum h.values h.left h.way_is h.comes
