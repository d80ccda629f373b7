-- Devices with a log of the calls that went well.
use Rattle.std.specs.Prelude.{ℕ, Bool, true, ◌^◌, ◌⊎◌, List, [], ◌∷◌, ◌++◌, Option, Some, None, String, length, map, take}
use Rattle.std.specs.{Global.{Global, Vec}, String.{string_bytes}, declared.rc.Rc.{Rc}}
use Rattle.stack_shelf.specs.Files.{Files}

-- a shelf, the files that it gave, and those that it got, in the order of the calls
pub record LoggedShelfOf (S : Type 0) : Type 0 where
  pub shelf : S
  pub fetched : Files
  pub stored : Files

-- the bytes of the names and of the files that were given, which have several owners
abbrev pub given : List (String Global × Rc (Vec ℕ) Global) → Files
given files = map (λ file. (string_bytes file.0, file.1.value.items)) files

-- the logged shelf after a fetch that gave bytes, by what the shelf is then
abbrev pub logged_gave : {S : Type 0} → (S → List ℕ → List ℕ → S) → LoggedShelfOf S → List ℕ → List ℕ → LoggedShelfOf S
logged_gave gave s name bytes =
    record { shelf = gave s.shelf name bytes; fetched = s.fetched ++ (name, bytes) ∷ []; stored = s.stored }

-- and after a store that succeeded
abbrev pub logged_got : {S : Type 0} → (S → List ℕ → List ℕ → S) → LoggedShelfOf S → List ℕ → List ℕ → LoggedShelfOf S
logged_got got s name bytes =
    record { shelf = got s.shelf name bytes; fetched = s.fetched; stored = s.stored ++ (name, bytes) ∷ [] }

-- a device behind a log may refuse memory if a heap may refuse a modest request for the log, or if the device may
abbrev pub may_refuse_logged : {H : Type 0} → (H → Type 0) → Type 0 → Type 0
may_refuse_logged {H} heaps device = ((heap : H) × heaps heap) ⊎ device

-- how many bytes the log of a sink has at most: more than any report has, and less than a session may print
abbrev pub log_limit : ℕ
log_limit = 2 ^ 24

-- a sink, and the first of the bytes that it took
pub record LoggedSinkOf (K : Type 0) : Type 0 where
  pub sink : K
  pub printed : List ℕ

-- the logged sink after a call that took all of these bytes
abbrev pub logged_took : {K : Type 0} → (K → List ℕ → K) → LoggedSinkOf K → List ℕ → LoggedSinkOf K
logged_took took s bytes = record { sink = took s.sink bytes; printed = take log_limit (s.printed ++ bytes) }

-- lines, the first bytes of those that came, how many bytes the sink's log had when each of them was asked for, and whether their end
-- was seen
pub record LoggedLinesOf (L : Type 0) : Type 0 where
  pub lines : L
  pub came : List ℕ
  pub printed_before : List ℕ
  pub over : Bool

-- the logged lines after a call that saw this sink and gave this line, by what the lines are then
abbrev pub logged_came : {L K : Type 0} → (L → K → List ℕ → L) → LoggedLinesOf L → LoggedSinkOf K → List ℕ → LoggedLinesOf L
logged_came came s sink line =
    record {
      lines = came s.lines sink.sink line;
      came = take log_limit (s.came ++ line);
      printed_before = take log_limit (s.printed_before ++ length sink.printed ∷ []);
      over = s.over;
    }

-- and after one that saw this sink and said that none is left
abbrev pub logged_ended : {L K : Type 0} → (L → K → L) → LoggedLinesOf L → LoggedSinkOf K → LoggedLinesOf L
logged_ended ended s sink =
    record { lines = ended s.lines sink.sink; came = s.came; printed_before = s.printed_before; over = true }

-- after one that saw this sink and whose line was over the limit, which has nothing in the logs
abbrev pub logged_overran : {L K : Type 0} → (L → K → L) → LoggedLinesOf L → LoggedSinkOf K → LoggedLinesOf L
logged_overran overran s sink = record s { lines = overran s.lines sink.sink }

-- and after one that saw this sink and failed, which has nothing there either
abbrev pub logged_broke : {L K : Type 0} → (L → K → L) → LoggedLinesOf L → LoggedSinkOf K → LoggedLinesOf L
logged_broke broke s sink = record s { lines = broke s.lines sink.sink }

-- the bytes of a text that was offered, if one was
abbrev pub offered_text : Option (Rc (Vec ℕ) Global) → List ℕ
offered_text None = []
offered_text (Some text) = text.value.items
