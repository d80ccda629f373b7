-- How long quick code is doesn't depend on where the window ends.
use Rattle.std.{proofs.Common.{◌≡◌, ℕ, suc, ◌+◌, List, [], ◌∷◌, length, Bool, true, false, refl, ap, sym, ◌∙◌, arith, length-append}, specs.Prelude.◌==◌}
use Rattle.std.{specs.Prelude.{if◌then◌else◌, None}, specs.declared.rc.Rc.Rc, specs.declared.alloc.Global.Global}
use Rattle.fm_words.{specs.declared.condition.Cc.TheVariants.Zs, specs.declared.operation.Op.TheVariants.Move}
use Rattle.fm_code.specs.InstructionWords.{flag_z}
use Rattle.gypsy_syntax.{specs.declared.predef.Predef.Predef, specs.Programs.{Arg, Proc, Stmt, Skip, NoOp, Signal, Seq, Loop, If, Begin, Call, Apply}}
use Rattle.gypsy_space.{specs.Nodes.seen_statements, specs.declared.program.Node.Node}
use Rattle.quick_generate.{specs.Sums.{HasMoreToAdd, limited}, specs.Rows.row_size, proofs.RowSizeLaws.{by_word_size, row_size_is}}
use Rattle.quick_code.{specs.Access.{Held, find_code}, specs.Pieces.{by_word_code, jump_when_code}}
use Rattle.quick_gypsy.{specs.Layout.Layout, specs.RowCode.{arg_access, arg_var, row_code}, specs.Quick.{arm_size, signalled, size, test_code}}
use Rattle.quick_build.specs.QuickImage.{access_from, layout_in, variable_address}

-- whether a register has the address, doesn't depend on the address
same_find : (k : ℕ) (vs : List ℕ) (b a a' : ℕ) → length (find_code (access_from k vs b a)) ≡ length (find_code (access_from k vs b a'))
same_find k [] b a a' = refl
same_find k (v ∷ vs) b a a' = pick (v == b) (same_find (suc k) vs b a a')
  where
    pick : (t : Bool) → length (find_code (access_from (suc k) vs b a)) ≡ length (find_code (access_from (suc k) vs b a'))
        → length (find_code (if t then Held k else access_from (suc k) vs b a))
        ≡ length (find_code (if t then Held k else access_from (suc k) vs b a'))
    pick true e = refl
    pick false e = e

-- where all is counted
pub no_more_words : (n whole : ℕ) → HasMoreToAdd n 0 whole → n ≡ limited whole
no_more_words n whole h = omega (arith, h.words, h.small)

-- two layouts in which each variable is found by as many words
abbrev SameFinds : Layout → Layout → Type 0
SameFinds L M = (b : ℕ) → length (find_code (L.access b)) ≡ length (find_code (M.access b))

same_row : (L M : Layout) → SameFinds L M → (args : List Arg) (r : Predef) → length (row_code L 0 args r) ≡ length (row_code M 0 args r)
same_row L M h args r =
    let x : (K : Layout) → ℕ = λ K. length (find_code (arg_access K args 0)) in
    let y : (K : Layout) → ℕ = λ K. length (find_code (arg_access K args 1)) in
    let z : (K : Layout) → ℕ = λ K. length (find_code (arg_access K args 2)) in
    row_size_is L 0 args r
    ∙ ap (λ (n : ℕ). row_size n (y L) (z L) r) (h (arg_var args 0))
    ∙ ap (λ (n : ℕ). row_size (x M) n (z L) r) (h (arg_var args 1))
    ∙ ap (λ (n : ℕ). row_size (x M) (y M) n r) (h (arg_var args 2))
    ∙ sym (row_size_is M 0 args r)

-- a test
pub test_size_is : (L : Layout) (b to : ℕ) → length (test_code L b to) ≡ length (find_code (L.access b)) + 3
test_size_is L b to =
    omega (arith, length-append (by_word_code Move flag_z (L.access b)) (jump_when_code Zs to), by_word_size Move flag_z (L.access b))

same_size : (L M : Layout) → SameFinds L M → (s : Stmt) → size L s ≡ size M s
same_size L M h Skip = refl
same_size L M h (NoOp place) = refl
same_size L M h (Signal place c) = refl
same_size L M h (Seq a b) = omega (arith, same_size L M h a, same_size L M h b)
same_size L M h (Loop place s) = omega (arith, same_size L M h s)
same_size L M h (If place b s w) =
    omega (arith, test_size_is L b 0, test_size_is M b 0, h b, same_size L M h s, same_size L M h w)
same_size L M h (Begin place s cs w) =
    ap (λ n. n + arm_size (signalled w) (size L w)) (same_size L M h s) ∙ ap (λ n. size M s + arm_size (signalled w) n) (same_size L M h w)
same_size L M h (Call place p xs cs) = refl
same_size L M h (Apply place r args) = same_row L M h args r

pub size_anywhere : (vs : List ℕ) (p : Proc) (e e' : ℕ) (s : Stmt) → size (layout_in vs p e) s ≡ size (layout_in vs p e') s
size_anywhere vs p e e' s =
    same_size (layout_in vs p e) (layout_in vs p e') (λ b. same_find 5 vs b (variable_address p e b) (variable_address p e' b)) s

-- a sequence doesn't signal alone
pub parts_signal : (ns : List (Rc Node Global)) → signalled (seen_statements ns) ≡ None
parts_signal [] = refl
parts_signal (n ∷ ns) = refl
