-- Parts of the program that is made of a source.
use Rattle.std.specs.{Prelude.{◌≡◌, ℕ, List, [], ◌∷◌, map}, declared.alloc.Global.{Global}, declared.rc.Rc.{Rc}}
use Rattle.gypsy_syntax.specs.Programs.{ConditionOf, Stmt, Seq}
use Rattle.gypsy_space.specs.{declared.program.CallSite.{CallSite}, declared.program.Node.{Node}, Nodes.{seen_cond, seen_statement}}

-- a call at a place, of this callee, with these data and condition actuals
pub record IsCallSite (place callee : ℕ) (xs : List ℕ) (cs : List ConditionOf) (site : CallSite) : Type 0 where
  pub place_is : site.place ≡ place
  pub callee_is : site.callee ≡ callee
  pub actuals_are : site.actuals.items ≡ xs
  pub conds_are : map seen_cond site.conds.items ≡ cs

-- statements in turn, and then what follows them
abbrev pub sequenced : List (Rc Node Global) → Stmt → Stmt
sequenced [] rest = rest
sequenced (n ∷ ns) rest = Seq (seen_statement n.value) (sequenced ns rest)
