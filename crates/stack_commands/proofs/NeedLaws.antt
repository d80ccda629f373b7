-- The procedure that reaches itself, as the source has it.
use Rattle.std.proofs.Common.{◌≡◌, ◌<◌, ◌∷◌, [], ℕ, zero, suc, List, length, map, get_or, sym, ap, arith}
use Rattle.gypsy_syntax.{specs.declared.proc.Proc.Proc, specs.Sources.ProcOf, specs.Views.SourceView.proc_of}

-- the name of a procedure is the one at its position
pub name_at : (procs : List Proc) (i : ℕ) (p : Proc) → i < length procs → p ≡ get_or procs i p
    → get_or (map (λ (q : ProcOf). q.name.name) (map proc_of procs)) i [] ≡ p.name.name
name_at [] i p lt is = absurd (omega (arith, lt))
name_at (q ∷ procs) zero p lt is = ap (λ (x : Proc). x.name.name) (sym is)
name_at (q ∷ procs) (suc i) p lt is = name_at procs i p (omega (arith, lt)) is
