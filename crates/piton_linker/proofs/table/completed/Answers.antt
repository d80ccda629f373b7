use Rattle.std.proofs.Common.{◌≡◌, List, length, map, ap, ◌∙◌, arith}
use Rattle.piton_words.specs.declared.word.Word.{Word}
use Rattle.piton_check.{specs.Instruction.system_view, specs.Resolved.ResolvedOf}
use Rattle.piton_semantics.{specs.Placed.{areas_size, areas_start}, specs.StateView.words_in}
use Rattle.piton_linker.{specs.declared.placement.Layout.Layout, specs.Tables.starts, proofs.BoundLaws.{areas_seen, areas_sizes}}
use Rattle.piton_linker.proofs.table.completed.Goals as goal

pub starts-requires : goal.starts-requires
starts-requires g c =
    let s = system_view c.args.checked.now in
    let same : map words_in c.as_slice.result.now ≡ s.areas =
    ap (λ xs. map words_in xs) c.as_slice.ensures.value ∙ ap (λ (r : ResolvedOf). r.areas) c.checked.view_is in
    let start : c.args.layout.areas_start ≡ areas_start s = ap (λ (l : Layout). l.areas_start) c.requires.layout in
    let size : areas_size (map words_in c.as_slice.result.now) ≡ areas_size s.areas = ap areas_size same in
    omega (arith, start, areas_seen c.as_slice.result.now, size, c.requires.fits)

pub returns : goal.returns
returns g c =
    let s = system_view c.args.checked.now in
    let same : map words_in c.as_slice.result.now ≡ s.areas =
    ap (λ xs. map words_in xs) c.as_slice.ensures.value ∙ ap (λ (r : ResolvedOf). r.areas) c.checked.view_is in
    let start : c.args.layout.areas_start ≡ areas_start s = ap (λ (l : Layout). l.areas_start) c.requires.layout in
    let areas : c.in_ok-areas.areas.items ≡ starts (areas_start s) (map (λ (ws : List Word). length ws) s.areas) =
    c.in_ok-areas.ensures
    ∙ ap (starts c.args.layout.areas_start) (areas_sizes c.as_slice.result.now)
    ∙ (λ t. starts (start t) (map (λ (ws : List Word). length ws) (same t))) in
    λ t. record {
      entries = c.requires.entries t;
      places = c.requires.places t;
      areas = areas t;
      base = ap (λ (r : ResolvedOf). r.base) c.checked.view_is t;
      ctrl_start = ap (λ (l : Layout). l.ctrl_start) c.requires.layout t;
      temp_start = ap (λ (l : Layout). l.temp_start) c.requires.layout t;
      end = ap (λ (l : Layout). l.end) c.requires.layout t;
    }
