use Rattle.std.{proofs.Common.{◌≡◌, ◌≤◌, map, Some, slice_get, length, refl, ap, sym, ◌∙◌, subst}, proofs.lemmas.Option.slice_get_read}
use Rattle.gypsy_syntax.{specs.Programs.{proc_at, words_of}, specs.Resolved.{program_of, shape_of}, specs.Views.SourceView.source_of}
use Rattle.gypsy_syntax.specs.declared.literal.Decl.{Decl}
use Rattle.space_cert.proofs.AcceptLaws.{formals_at, formals_small}
use Rattle.space_cert.proofs.accepting.main_formal_words.Goals as goal

pub formal_words-requires : goal.formal_words-requires
formal_words-requires c =
    let s = source_of c.args.source.now in
    let read = slice_get_read c.deref.result.now (length c.deref.result.now) c.args.main c.in-Some.proc.now refl c.in-Some.ensures.lookup.3.0
    c.in-Some.ensures.lookup.1 in
    let look : slice_get c.args.source.now.procs.items c.args.main ≡ Some c.in-Some.proc.now =
    subst (λ xs. slice_get xs c.args.main ≡ Some c.in-Some.proc.now) c.deref.ensures.value read in
    let are : (proc_at (program_of s) (program_of s).main).formals ≡ map (λ (d : Decl). shape_of d.shape) c.in-Some.proc.now.formals.items =
    ap (λ i. (proc_at (program_of s) i).formals) (sym c.requires.main) ∙ formals_at s c.args.source.now.procs.items c.args.main c.in-Some.proc.now look in
    subst (λ xs. words_of (map (λ (d : Decl). shape_of d.shape) xs) ≤ 65536) (sym c.as_slice.ensures.value)
    (subst (λ xs. words_of xs ≤ 65536) are (formals_small s c.requires.accepted.fits))

pub returns-in-Some-clause-exact : goal.returns-in-Some-clause-exact
returns-in-Some-clause-exact c =
    let s = source_of c.args.source.now in
    let read = slice_get_read c.deref.result.now (length c.deref.result.now) c.args.main c.in-Some.proc.now refl c.in-Some.ensures.lookup.3.0
    c.in-Some.ensures.lookup.1 in
    let look : slice_get c.args.source.now.procs.items c.args.main ≡ Some c.in-Some.proc.now =
    subst (λ xs. slice_get xs c.args.main ≡ Some c.in-Some.proc.now) c.deref.ensures.value read in
    let are : (proc_at (program_of s) (program_of s).main).formals ≡ map (λ (d : Decl). shape_of d.shape) c.in-Some.proc.now.formals.items =
    ap (λ i. (proc_at (program_of s) i).formals) (sym c.requires.main) ∙ formals_at s c.args.source.now.procs.items c.args.main c.in-Some.proc.now look in
    c.formal_words.ensures ∙ (ap (λ xs. words_of (map (λ (d : Decl). shape_of d.shape) xs)) c.as_slice.ensures.value ∙ sym (ap words_of are))

pub returns-in-Some-clause-small : goal.returns-in-Some-clause-small
returns-in-Some-clause-small c =
    let s = source_of c.args.source.now in
    let read = slice_get_read c.deref.result.now (length c.deref.result.now) c.args.main c.in-Some.proc.now refl c.in-Some.ensures.lookup.3.0
    c.in-Some.ensures.lookup.1 in
    let look : slice_get c.args.source.now.procs.items c.args.main ≡ Some c.in-Some.proc.now =
    subst (λ xs. slice_get xs c.args.main ≡ Some c.in-Some.proc.now) c.deref.ensures.value read in
    let are : (proc_at (program_of s) (program_of s).main).formals ≡ map (λ (d : Decl). shape_of d.shape) c.in-Some.proc.now.formals.items =
    ap (λ i. (proc_at (program_of s) i).formals) (sym c.requires.main) ∙ formals_at s c.args.source.now.procs.items c.args.main c.in-Some.proc.now look in
    subst (λ n. n ≤ 65536) (sym (c.formal_words.ensures
    ∙ (ap (λ xs. words_of (map (λ (d : Decl). shape_of d.shape) xs)) c.as_slice.ensures.value ∙ sym (ap words_of are))))
    (formals_small s c.requires.accepted.fits)
