use Rattle.std.proofs.Common.{◌≡◌, ℕ, ◌-◌, length, take, drop, List, ◌++◌, Option, sym, ap, ◌∙◌, subst, append_assoc, take-append-drop}
use Rattle.std.{proofs.Math.Seq.take-append_seam, proofs.lemmas.List.take_rest, proofs.KnownBytes.{Appends-trans, Appends-kept}, specs.Io.KnownBytes.Appends}
use Rattle.stack_shelf.proofs.streams.write_whole.Goals.{in-Ok, in-Err}
use Rattle.stack_shelf.proofs.streams.write_whole.Goals as goal

-- what a write took of the rest was appended too
moved : (all done rest : List ℕ) (n : ℕ) → all ≡ done ++ rest → all ≡ (done ++ take n rest) ++ take (length rest - n) (drop n rest)
moved all done rest n e =
    e ∙ ap (λ l. done ++ l) (sym (take-append-drop n rest)) ∙ sym (append_assoc done (take n rest) (drop n rest))
    ∙ ap (λ l. (done ++ take n rest) ++ l) (sym (take_rest rest n))

-- what was appended is a prefix of all
prefix : (a b : Option (List ℕ)) (all done rest : List ℕ) → all ≡ done ++ rest → Appends a b done → (n : ℕ) × Appends a b (take n all)
prefix a b all done rest e h = (length done, subst (Appends a b) (sym (ap (take (length done)) e ∙ take-append_seam done rest)) h)

pub returns-in-Ok-eq0-clause-prefix : goal.returns-in-Ok-eq0-clause-prefix
returns-in-Ok-eq0-clause-prefix g c =
    let (done, split, appended) = c.loop.invariant in
    let rest = c.loop.rest.now in
    let n = c.in-Ok-eq0.field-0 in
    prefix _ _ c.args.bytes.now (done ++ take n rest) (take (length rest - n) (drop n rest)) (moved _ done rest n split)
    (Appends-trans _ _ _ _ _ appended (rw c.in-Ok-eq0.is at c.write.ensures.bytes))

pub returns-in-Err-2-clause-prefix : goal.returns-in-Err-2-clause-prefix
returns-in-Err-2-clause-prefix g c =
    let (done, split, appended) = c.loop.invariant in
    prefix _ _ c.args.bytes.now done c.loop.rest.now split (Appends-kept _ _ _ done appended c.in-Err-2.ensures.bytes)

pub loop-preserved : goal.loop-preserved
loop-preserved g c =
    let (done, split, appended) = c.loop.invariant in
    let rest = c.loop.rest.now in
    elim c.match-write.branch [
      | in-Ok w ↦ (
        done ++ take w.in-Ok.count rest,
        rw w.rest-is (moved _ done rest w.in-Ok.count split),
        Appends-trans _ _ _ _ _ appended w.in-Ok.ensures.bytes,
      )
      | in-Err w ↦ (done, rw w.rest-is split, Appends-kept _ _ _ done appended w.in-Err.ensures.bytes)
    ]

pub returns-clause-prefix : goal.returns-clause-prefix
returns-clause-prefix g c =
    let (done, split, appended) = c.loop.invariant in
    prefix _ _ c.args.bytes.now done c.loop.rest.now split appended
