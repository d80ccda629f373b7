use Rattle.std.{proofs.Common.{◌≡◌, ◌==◌, length, get_or, map, None, true, ap, sym, ◌∙◌}, specs.Option.option_map}
use Rattle.gypsy_syntax.{specs.Resolved.program_of, specs.Views.SourceView.{proc_of, source_of}, specs.Sources.ProcOf}
use Rattle.gypsy_space.specs.Needs.{main_used}
use Rattle.space_cert.{specs.Covers.{as_words, bound_at}, specs.Accepting.{covers_from, covers_main, source_callees, source_calls}, proofs.AcceptLaws.third_is}
use Rattle.space_cert.proofs.accepting.covers.Goals as goal

pub returns : goal.returns
returns c =
    let ns = c.args.needs.now.procedures.items in
    let bs = c.args.cert.now.bounds.items in
    let s = source_of c.args.source.now in
    let q = program_of s in
    let each : (length bs == length (source_calls s)) ≡ true = sym c.has_each.ensures ∙ c.if-not-has_each.false in
    let bound = c.bound_in.ensures.bound ∙ ap (λ p. get_or bs p None) c.position_of-main.ensures in
    let main : covers_main (main_used q) (as_words c.args.sizes) (bound_at bs q.main) ≡ true =
    sym (c.covers_main.ensures ∙ (λ i. covers_main (c.main_used.ensures.used i) (as_words c.args.sizes) (option_map as_words (bound i))))
    ∙ c.if-not-covers_main.false in
    let all = c.covers_all.ensures ∙ ap (λ ps. covers_from ns bs 0 (map (λ (p : ProcOf). source_callees s p.body) (map proc_of ps))) c.as_slice.ensures.value in
    all ∙ sym (third_is (length bs == length (source_calls s)) (covers_main (main_used q) (as_words c.args.sizes) (bound_at bs q.main))
    (covers_from ns bs 0 (source_calls s)) each main)
