-- What a call returned, and what it did, in weaker words.
use Rattle.std.specs.Prelude.{Result, Ok, Err}
use Rattle.stack_heap.specs.Heaps.{IfOkUnless, OnOkUnless}

pub if_ok_unless_weaker : {X E : Type 0} (refused : Type 0) (result : Result X E) (P Q : X → Type 0) → ((x : X) → P x → Q x)
    → IfOkUnless refused result P → IfOkUnless refused result Q
if_ok_unless_weaker refused (Ok x) P Q follows is = follows x is
if_ok_unless_weaker refused (Err e) P Q follows is = is

pub on_ok_unless_weaker : {X E : Type 0} (refused : Type 0) (result : Result X E) (P Q : Type 0) → (P → Q) → OnOkUnless refused result P
    → OnOkUnless refused result Q
on_ok_unless_weaker refused (Ok x) P Q follows did = follows did
on_ok_unless_weaker refused (Err e) P Q follows did = did
