-- Examples, computed: the programs of `examples/counting/upto.gypsy`, `examples/numbers/product.gypsy` and `examples/calls/swap.gypsy`.
use Rattle.std.specs.Prelude.{◌≡◌, ℕ, ℤ, pos, negsuc, List, [], ◌∷◌, false}
use Rattle.gypsy_syntax.specs.declared.predef.Predef.TheVariants as row
use Rattle.gypsy_syntax.specs.Programs.{Leave, Var, Lit, Proc, Program, simple, Skip, NoOp, Signal, Seq, Loop, If, Call, Apply}
use Rattle.gypsy_syntax.specs.Effects.{integer_value, truth_value}
use Rattle.gypsy_space.specs.Needs.{StackSizes}
use Rattle.stack_text.specs.declared.shape.Kind.TheVariants.{Integer}
use Rattle.quick_gypsy.specs.InLine.{lined_main}
use Rattle.quick_build.specs.{QuickImage.{most_nested, quick_words}, QuickImplements.{program_cost}}

-- formals n and i, locals is-over and one
abbrev pub upto_main : Proc
upto_main = record {
  place = 0;
  formals = simple Integer ∷ simple Integer ∷ [];
  locals = truth_value false ∷ integer_value (pos 1) ∷ [];
  conds = 0;
  local_conds = 0;
  body =
      Seq
      (Apply 0 row.MgSimpleConstantAssignment (Var 1 ∷ Lit (integer_value (pos 0)) ∷ []))
      (Seq
      (Loop
      0
      (Seq
      (Apply 0 row.MgIntegerLe (Var 2 ∷ Var 0 ∷ Var 1 ∷ []))
      (Seq (If 0 2 (Signal 0 Leave) (NoOp 0)) (Seq (Apply 0 row.MgIntegerAdd (Var 1 ∷ Var 1 ∷ Var 3 ∷ [])) Skip))))
      Skip);
}

abbrev pub upto : Program
upto = record { main = 0; procs = upto_main ∷ [] }

abbrev pub hundred : StackSizes
hundred = record { ctrl = 100; temp = 100 }

-- the code of a program for stacks of these sizes, in a window from 0 to this end
abbrev pub words_to : List ℕ → Program → ℕ → List ℕ
words_to vs q end = quick_words vs (lined_main q hundred most_nested) 0 end

-- its code in a window from 0 to 38, and that from n = 5 it takes 63 instructions, where the plain image takes 673
pub record UptoIsQuick : Type 0 where
  pub words : words_to (0 ∷ 1 ∷ 2 ∷ 3 ∷ []) upto 38 ≡
      14683199 ∷ 33 ∷ 14699583 ∷ 1 ∷ 14695455 ∷ 32 ∷ 14683199 ∷ 33 ∷ 14699583 ∷ 3 ∷
      14695455 ∷ 32 ∷ 14702655 ∷ 0 ∷ 14683158 ∷ 133106709 ∷ 14704128 ∷ 10509825 ∷ 14748695 ∷ 7355455 ∷
      25 ∷ 14695455 ∷ 32 ∷ 14695455 ∷ 25 ∷ 14683158 ∷ 65276952 ∷ 3161151 ∷ 0 ∷ 14702595 ∷
      14695455 ∷ 14 ∷ []
  pub count : program_cost (0 ∷ 1 ∷ 2 ∷ 3 ∷ []) upto hundred 38 (integer_value (pos 5) ∷ integer_value (pos 0) ∷ []) 7 ≡ 63

-- formals x, y and z
abbrev pub product_main : Proc
product_main = record {
  place = 0;
  formals = simple Integer ∷ simple Integer ∷ simple Integer ∷ [];
  locals = [];
  conds = 0;
  local_conds = 0;
  body = Apply 0 row.MgIntegerMultiply (Var 2 ∷ Var 0 ∷ Var 1 ∷ []);
}

abbrev pub product : Program
product = record { main = 0; procs = product_main ∷ [] }

-- how many instructions the product of these numbers takes
abbrev pub product_takes : ℤ → ℤ → ℕ
product_takes x y =
    program_cost (0 ∷ 1 ∷ 2 ∷ []) product hundred 32 (integer_value x ∷ integer_value y ∷ integer_value (pos 0) ∷ []) 2

-- its code in a window from 0 to 31; that 6 times -7 takes 22 instructions, and the plain image 2,604; and that 65,536 times 32,768,
-- which doesn't fit in 32 signed bits, takes 83, and the plain image 2,600
pub record ProductIsQuick : Type 0 where
  pub words : words_to (0 ∷ 1 ∷ 2 ∷ []) product 32 ≡
      14683199 ∷ 28 ∷ 14699583 ∷ 1 ∷ 14695455 ∷ 27 ∷ 14683199 ∷ 28 ∷ 14699583 ∷ 3 ∷ 14695455 ∷ 27 ∷
      14683648 ∷ 14680085 ∷ 14815254 ∷ 54541827 ∷ 81793028 ∷ 82051072 ∷ 53493253 ∷ 183046148 ∷
      51645440 ∷ 57687554 ∷ 65273856 ∷ 119553541 ∷ 3161151 ∷ 0 ∷ 14703619 ∷ []
  pub count : product_takes (pos 6) (negsuc 6) ≡ 22
  pub overflow : product_takes (pos 65536) (pos 32768) ≡ 83

-- formals x and y, which are handed to swap
abbrev pub swap_main : Proc
swap_main = record {
  place = 0;
  formals = simple Integer ∷ simple Integer ∷ [];
  locals = [];
  conds = 0;
  local_conds = 0;
  body = Call 0 1 (0 ∷ 1 ∷ []) [];
}

-- formals a and b, local t
abbrev pub swap_them : Proc
swap_them = record {
  place = 0;
  formals = simple Integer ∷ simple Integer ∷ [];
  locals = integer_value (pos 0) ∷ [];
  conds = 0;
  local_conds = 0;
  body =
      Seq
      (Apply 0 row.MgSimpleVariableAssignment (Var 2 ∷ Var 0 ∷ []))
      (Seq
      (Apply 0 row.MgSimpleVariableAssignment (Var 0 ∷ Var 1 ∷ []))
      (Seq (Apply 0 row.MgSimpleVariableAssignment (Var 1 ∷ Var 2 ∷ [])) Skip));
}

abbrev pub swap : Program
swap = record { main = 0; procs = swap_main ∷ swap_them ∷ [] }

-- its code in a window from 0 to 22, where t is a third variable of main; and that it takes four instructions
pub record SwapIsQuick : Type 0 where
  pub words : words_to (2 ∷ 0 ∷ 1 ∷ []) swap 22 ≡
      14683199 ∷ 18 ∷ 14699583 ∷ 1 ∷ 14695455 ∷ 17 ∷ 14683199 ∷ 18 ∷ 14699583 ∷ 3 ∷ 14695455 ∷ 17 ∷
      14701631 ∷ 0 ∷ 14701590 ∷ 14702615 ∷ 14703637 ∷ []
  pub count : program_cost (2 ∷ 0 ∷ 1 ∷ []) swap hundred 22 (integer_value (pos 3) ∷ integer_value (pos 4) ∷ []) 3 ≡ 4
