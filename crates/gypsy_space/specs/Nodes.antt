-- What clauses see of nodes.
use Rattle.std.specs.{Prelude.{ℕ, List, [], ◌∷◌, ◌++◌, map, length}, declared.rc.Rc.{Rc}, declared.alloc.Global.{Global}}
use Rattle.stack_text.specs.{declared.shape.Shape.{Shape}, Values.{ValueOf}}
use Rattle.gypsy_syntax.specs.Programs.{ConditionOf, Leave, Routine, Space, Declared, Arg, Var, Lit, Stmt, Proc}
use Rattle.gypsy_syntax.specs.{Resolved.{condition_names, variable_names}, Sources.{ProcOf}}
use Rattle.gypsy_space.specs.{declared.program.Procedure.{Procedure}, declared.program.Program.{Program}}
use Rattle.gypsy_space.specs.{declared.program.Condition.{Condition}, declared.program.Argument.{Argument}}
use Rattle.gypsy_space.specs.{declared.program.Argument.TheVariants.{Variable, Constant}, declared.program.Node.{Node, NoOp, Signal, Seq'}}
use Rattle.gypsy_space.specs.declared.program.Node.{Loop', If', Begin', Call, Apply, Row_of-Node-Seq-0-1, end_of-Node-Seq-0-1}
use Rattle.gypsy_space.specs.declared.program.Node.{more_of-Node-Seq-0-1}
use Rattle.gypsy_syntax.specs.Programs as program
use Rattle.gypsy_space.specs.declared.program.Condition.TheVariants as condition

abbrev pub seen_cond : Condition → ConditionOf
seen_cond condition.Leave = Leave
seen_cond condition.Routine = Routine
seen_cond condition.Space = Space
seen_cond (condition.Declared i) = Declared i

abbrev pub seen_arg : Argument → Arg
seen_arg (Variable i) = Var i
seen_arg (Constant v) = Lit v

abbrev mutual
  pub seen_statement : Node → Stmt
  seen_statement (NoOp place) = program.NoOp place
  seen_statement (Signal place c) = program.Signal place (seen_cond c)
  seen_statement (Seq' p shape parts) = seen_parts parts
  seen_statement (Loop' place p body) = program.Loop place (seen_statement body)
  seen_statement (If' place test p s q w) = program.If place test (seen_statement s) (seen_statement w)
  seen_statement (Begin' place p body conds q arm) =
      program.Begin place (seen_statement body) (map seen_cond conds.value.items) (seen_statement arm)
  seen_statement (Call call) =
      program.Call call.value.place call.value.callee call.value.actuals.items (map seen_cond call.value.conds.items)
  seen_statement (Apply call) = program.Apply call.value.place call.value.which (map seen_arg call.value.args.items)

  pub seen_parts : {m : _} → Row_of-Node-Seq-0-1 m → Stmt
  seen_parts end_of-Node-Seq-0-1 = program.Skip
  seen_parts (more_of-Node-Seq-0-1 p n rest) = program.Seq (seen_statement n) (seen_parts rest)

-- statements in turn
abbrev pub seen_statements : List (Rc Node Global) → Stmt
seen_statements [] = program.Skip
seen_statements (n ∷ ns) = program.Seq (seen_statement n.value) (seen_statements ns)

-- of formals and variables as they are kept: the names, and beside them the shapes or the values
abbrev pub held_names : {N V : Type 0} → List (N × V) → List N
held_names vs = map (λ v. v.0) vs

abbrev pub held_shapes : {N : Type 0} → List (N × Shape) → List Shape
held_shapes vs = map (λ v. v.1) vs

abbrev pub held_values : {N : Type 0} → List (N × ValueOf) → List ValueOf
held_values vs = map (λ v. v.1) vs

abbrev pub seen_proc : Procedure → Proc
seen_proc p = record {
  place = p.place;
  formals = held_shapes p.formals.items;
  locals = held_values p.locals.items;
  conds = length p.conds.items;
  local_conds = length p.local_conds.items;
  body = seen_statement p.body.value;
}

abbrev pub seen_program : Program → program.Program
seen_program q = record { main = q.main; procs = map seen_proc q.procedures.items }

-- the names in a procedure: those of its formals and then its locals, and those of its formal conditions and then the local ones
pub record ProcNames : Type 0 where
  pub variables : List (List ℕ)
  pub conditions : List (List ℕ)

abbrev pub seen_proc_names : Procedure → ProcNames
seen_proc_names p = record {
  variables = held_names p.formals.items ++ held_names p.locals.items;
  conditions = p.conds.items ++ p.local_conds.items;
}

-- the names that a procedure of a source declares
abbrev pub declared_names : ProcOf → ProcNames
declared_names p = record { variables = variable_names p; conditions = condition_names p }
