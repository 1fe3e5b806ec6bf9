-- What evaluates to values that are made, and leaves a state in which all is made.
use Rattle.std.proofs.Common.{ℕ, zero, suc, ◌-◌, Bool, true, false, cond, List, [], ◌∷◌, take}
use Rattle.std.proofs.Common.{Result, Ok, Err, None}
use Rattle.std.specs.Prelude.{nat_le, nat_lt, slice_get, slice_set, unwrap_or, ◌==◌}
use Rattle.std.specs.List.{AllByRecursion}
use Rattle.bx_tree.proofs.Lists.{all_weaker}
use Rattle.pip_model_types.specs.declared.pip.Pip.{Pip}
use Rattle.dscript_value.specs.Plain.{Plain, Undefined}
use Rattle.dscript_sdk_values.specs.declared.fault.SdkFault.{SdkFault}
use Rattle.dscript_sdk_values.specs.declared.fault.SdkFault.TheVariants as sdk_faults
use Rattle.dscript_sdk_values.specs.Outcomes.{Outcome}
use Rattle.dscript_sdk_pips.specs.States.{State as Calls}
use Rattle.dscript_eval_meaning.specs.declared.fault.EvalKind.{EvalKind}
use Rattle.dscript_eval_meaning.specs.declared.fault.EvalKind.TheVariants as kinds
use Rattle.dscript_eval_meaning.specs.Calls.{with_calls}
use Rattle.dscript_eval_meaning.specs.Constants.{Table, status_in, with_status}
use Rattle.dscript_eval_meaning.specs.Evaluating.{Gives, Stop, Fault, answered, fails, followed, gives, spend, stop_of, ◌>>=◌, ◌>>◌}
use Rattle.dscript_eval_meaning.specs.Frames.{captured_value, captures, filled, local_value, within}
use Rattle.dscript_eval_meaning.specs.States.{Frame, State, Status, Waiting, Running, Done}
use Rattle.dscript_eval_laws.proofs.MadeCalls.{Changes}
use Rattle.dscript_eval_laws.proofs.MadeOutcomes.{If, IfThere, there_or}
use Rattle.dscript_eval_laws.proofs.MadeValues.{AllFit, AreMade, Grows, IsMade, all_still, grown_on, no_growth}
use Rattle.dscript_eval_laws.proofs.MadeValues.{still_made}

-- ## States

abbrev pub pips_of : State → List Pip
pips_of s = s.calls.pips

-- ## Lists

pub at_place : {X : Type 0} (P : X → Type 0) (xs : List X) (n : ℕ) → AllByRecursion P xs → IfThere P (slice_get xs n)
at_place P [] n h = tt
at_place P (x ∷ xs) zero h = h.0
at_place P (x ∷ xs) (suc n) h = at_place P xs n h.1

pub set_at : {X : Type 0} (P : X → Type 0) (xs : List X) (n : ℕ) (x : X) → AllByRecursion P xs → P x → AllByRecursion P (slice_set xs n x)
set_at P [] n x h k = tt
set_at P (y ∷ ys) zero x h k = (k, h.1)
set_at P (y ∷ ys) (suc n) x h k = (h.0, set_at P ys n x h.1 k)

first_of_all : {X : Type 0} (P : X → Type 0) (n : ℕ) (xs : List X) → AllByRecursion P xs → AllByRecursion P (take n xs)
first_of_all P zero xs h = tt
first_of_all P (suc n) [] h = tt
first_of_all P (suc n) (x ∷ xs) h = (h.0, first_of_all P n xs h.1)

-- ## A mark

-- A stop that nothing comes to by itself: the specification asked to be refused, and said nothing.
abbrev pub IsMark : Stop → Type 0
IsMark (Fault kinds.User file None) = Unit {0}
IsMark _ = ⊥

abbrev pub IsOther : EvalKind → Type 0
IsOther kind = (file : ℕ) → IsMark (Fault kind file None) → ⊥

no_mark : (fault : SdkFault) (file : ℕ) → IsMark (stop_of fault file) → ⊥
no_mark sdk_faults.Kind file h = h
no_mark sdk_faults.Missing file h = h
no_mark sdk_faults.Range file h = h
no_mark sdk_faults.BadPath file h = h
no_mark sdk_faults.BadArgument file h = h
no_mark (sdk_faults.User message) file h = h
no_mark sdk_faults.Memory file h = h

abbrev pub Whatever : (A : Type 0) → List Pip → A → Type 0
Whatever A pips x = Unit {0}

module _ (F : ℕ → ℕ → Type 0) where
  abbrev pub IsStatusMade : List Pip → Status → Type 0
  IsStatusMade pips Waiting = Unit {0}
  IsStatusMade pips Running = Unit {0}
  IsStatusMade pips (Done x) = IsMade F pips x

  abbrev pub IsTableMade : List Pip → Table → Type 0
  IsTableMade pips table = AllByRecursion (AllByRecursion (IsStatusMade pips)) table

  pub record IsFrameMade (pips : List Pip) (f : Frame) : Type 0 where
    pub held : AreMade F pips f.held
    pub own : AreMade F pips f.own

  -- each pip fits, and the values of the frame and of the constants are made
  pub record IsSound (s : State) : Type 0 where
    pub fit : AllFit s.calls.pips
    pub frame : IsFrameMade s.calls.pips s.frame
    pub constants : IsTableMade s.calls.pips s.constants

  still_status : (before now : List Pip) → Grows before now → (status : Status) → IsStatusMade before status → IsStatusMade now status
  still_status before now grows Waiting h = tt
  still_status before now grows Running h = tt
  still_status before now grows (Done x) h = still_made F before now grows x h

  still_table : (before now : List Pip) → Grows before now → (table : Table) → IsTableMade before table → IsTableMade now table
  still_table before now grows table h =
      all_weaker (AllByRecursion (IsStatusMade before)) (AllByRecursion (IsStatusMade now))
      (λ row k. all_weaker (IsStatusMade before) (IsStatusMade now) (still_status before now grows) row k) table h

  pub still_frame : (before now : List Pip) → Grows before now → (f : Frame) → IsFrameMade before f → IsFrameMade now f
  still_frame before now grows f h = record {
    held = all_still F before now grows f.held h.held;
    own = all_still F before now grows f.own h.own;
  }

  -- ## What evaluates so

  -- the pips stay and others are added, the state is sound, and the value is one of these where those pips are
  pub record IsAfter (A : Type 0) (P : List Pip → A → Type 0) (before : State) (x : A) (after : State) : Type 0 where
    pub grows : Grows (pips_of before) (pips_of after)
    pub sound : IsSound after
    pub value : P (pips_of after) x

  abbrev pub Comes : (A : Type 0) → (List Pip → A → Type 0) → State → Result (A × State) Stop → Type 0
  Comes A P s (Ok r) = IsAfter A P s r.0 r.1
  Comes A P s (Err stop) = IsMark stop → ⊥

  -- from each sound state on that has these pips
  abbrev pub Keeps : (A : Type 0) → (List Pip → A → Type 0) → List Pip → Gives A → Type 0
  Keeps A P pips m = (s : State) → Grows pips (pips_of s) → IsSound s → Comes A P s (m s)

  from_before
      : (A : Type 0) (P : List Pip → A → Type 0) (before between : State) → Grows (pips_of before) (pips_of between)
      → (r : Result (A × State) Stop) → Comes A P between r → Comes A P before r
  from_before A P before between grows (Ok r) h = record {
    grows = grown_on (pips_of before) (pips_of between) (pips_of r.1) grows h.grows;
    sound = h.sound;
    value = h.value;
  }
  from_before A P before between grows (Err stop) h = h

  followed_keeps
      : (A B : Type 0) (P : List Pip → A → Type 0) (Q : List Pip → B → Type 0) (f : A → Gives B) (s : State)
      (pips : List Pip) → Grows pips (pips_of s)
      → ((now : List Pip) (x : A) → Grows pips now → P now x → Keeps B Q now (f x))
      → (r : Result (A × State) Stop) → Comes A P s r → Comes B Q s (followed r f)
  followed_keeps A B P Q f s pips grows next (Ok r) h =
      from_before B Q s r.1 h.grows (f r.0 r.1)
      (next (pips_of r.1) r.0 (grown_on pips (pips_of s) (pips_of r.1) grows h.grows) h.value r.1
      (no_growth (pips_of r.1)) h.sound)
  followed_keeps A B P Q f s pips grows next (Err stop) h = h

  -- one thing, and then another with its value
  pub bound
      : (A B : Type 0) (P : List Pip → A → Type 0) (Q : List Pip → B → Type 0) (pips : List Pip) (m : Gives A)
      (f : A → Gives B) → Keeps A P pips m
      → ((now : List Pip) (x : A) → Grows pips now → P now x → Keeps B Q now (f x)) → Keeps B Q pips (m >>= f)
  bound A B P Q pips m f first next = λ s grows sound.
      followed_keeps A B P Q f s pips grows next (m s) (first s grows sound)

  pub both
      : (A B : Type 0) (P : List Pip → A → Type 0) (Q : List Pip → B → Type 0) (pips : List Pip) (m : Gives A)
      (m' : Gives B) → Keeps A P pips m → ((now : List Pip) → Grows pips now → Keeps B Q now m')
      → Keeps B Q pips (m >> m')
  both A B P Q pips m m' first next =
      bound A B P Q pips m (λ x. m') first (λ now x grows h. next now grows)

  -- a value that is one of these wherever those pips are
  pub given
      : (A : Type 0) (P : List Pip → A → Type 0) (pips : List Pip) (x : A)
      → ((now : List Pip) → Grows pips now → P now x) → Keeps A P pips (gives x)
  given A P pips x h = λ s grows sound. record {
    grows = no_growth (pips_of s);
    sound = sound;
    value = h (pips_of s) grows;
  }

  pub failed : (A : Type 0) (P : List Pip → A → Type 0) (pips : List Pip) (kind : EvalKind) → IsOther kind → Keeps A P pips (fails kind)
  failed A P pips k other = λ s grows sound. other s.frame.file

  answer_keeps
      : (A : Type 0) (P : List Pip → A → Type 0) (s : State) → IsSound s → (o : Outcome A) → If (P (pips_of s)) o
      → Comes A P s (answered o s)
  answer_keeps A P s sound (Ok x) h = record { grows = no_growth (pips_of s); sound = sound; value = h }
  answer_keeps A P s sound (Err fault) h = no_mark fault s.frame.file

  -- what an operator answers
  pub answer
      : (A : Type 0) (P : List Pip → A → Type 0) (pips : List Pip) (o : Outcome A)
      → ((now : List Pip) → Grows pips now → If (P now) o) → Keeps A P pips (answered o)
  answer A P pips o h = λ s grows sound. answer_keeps A P s sound o (h (pips_of s) grows)

  -- what an operator answers at the state
  pub answer_at
      : (A : Type 0) (P : List Pip → A → Type 0) (pips : List Pip) (o : State → Outcome A)
      → ((s : State) → Grows pips (pips_of s) → IsSound s → If (P (pips_of s)) (o s))
      → Keeps A P pips (λ s. answered (o s) s)
  answer_at A P pips o h = λ s grows sound. answer_keeps A P s sound (o s) (h s grows sound)

  spending : (k : ℕ) (s : State) → IsSound s → (b : Bool)
      → Comes (Unit {0}) (Whatever (Unit {0})) s (cond b (Ok (tt, record s { left = s.left - k })) (fails {A = Unit {0}} kinds.Budget s))
  spending k s sound true = record {
    grows = no_growth (pips_of s);
    sound = record { fit = sound.fit; frame = sound.frame; constants = sound.constants };
    value = tt;
  }
  spending k s sound false = λ h. h

  pub spent : (k : ℕ) (pips : List Pip) → Keeps (Unit {0}) (Whatever (Unit {0})) pips (spend k)
  spent k pips = λ s grows sound. spending k s sound (nat_le k s.left)

  -- what changes the state of calls
  changes_keep
      : (s : State) → IsSound s → (change : Outcome (Plain × Calls)) → Changes F s.calls change
      → Comes Plain (IsMade F) s (with_calls s change)
  changes_keep s sound (Ok r) h = record {
    grows = h.grows;
    sound = record {
      fit = h.fit;
      frame = still_frame (pips_of s) r.1.pips h.grows s.frame sound.frame;
      constants = still_table (pips_of s) r.1.pips h.grows s.constants sound.constants;
    };
    value = h.made;
  }
  changes_keep s sound (Err fault) h = no_mark fault s.frame.file

  pub changed
      : (pips : List Pip) (change : State → Outcome (Plain × Calls))
      → ((s : State) → Grows pips (pips_of s) → IsSound s → Changes F s.calls (change s))
      → Keeps Plain (IsMade F) pips (λ s. with_calls s (change s))
  changed pips change h = λ s grows sound. changes_keep s sound (change s) (h s grows sound)

  -- ## Frames

  left_again
      : (A : Type 0) (P : List Pip → A → Type 0) (frame : Frame) (s : State) → IsSound s
      → (r : Result (A × State) Stop) → Comes A P (record s { frame = frame }) r
      → Comes A P s (followed r (λ x after. Ok (x, record after { frame = s.frame })))
  left_again A P frame s sound (Ok r) h = record {
    grows = h.grows;
    sound = record {
      fit = h.sound.fit;
      frame = still_frame (pips_of s) (pips_of r.1) h.grows s.frame sound.frame;
      constants = h.sound.constants;
    };
    value = h.value;
  }
  left_again A P frame s sound (Err stop) h = h

  pub inside
      : (A : Type 0) (P : List Pip → A → Type 0) (pips : List Pip) (frame : Frame) (body : Gives A)
      → ((now : List Pip) → Grows pips now → IsFrameMade now frame) → Keeps A P pips body
      → Keeps A P pips (within frame body)
  inside A P pips frame body made keeps = λ s grows sound.
      left_again A P frame s sound (body (record s { frame = frame }))
      (keeps (record s { frame = frame }) grows (record {
        fit = sound.fit;
        frame = made (pips_of s) grows;
        constants = sound.constants;
      }))

  -- ## Lists of values

  filled_made : (pips : List Pip) (n : ℕ) (xs : List Plain) → AreMade F pips xs → AreMade F pips (filled n xs)
  filled_made pips zero xs h = tt
  filled_made pips (suc n) [] h = (tt, filled_made pips n [] tt)
  filled_made pips (suc n) (x ∷ xs) h = (h.0, filled_made pips n xs h.1)

  pub arguments_made : (pips : List Pip) (count params : ℕ) (args : List Plain) → AreMade F pips args → AreMade F pips (filled count (take params args))
  arguments_made pips count params args h = filled_made pips count (take params args) (first_of_all (IsMade F pips) params args h)

  captured_made : (pips : List Pip) (locals : List ℕ) (held : List Plain) (n : ℕ) → AreMade F pips held → IsMade F pips (captured_value locals held n)
  captured_made pips [] held n h = tt
  captured_made pips (c ∷ cs) [] n h = tt
  captured_made pips (c ∷ cs) (x ∷ xs) n h = chosen (c == n) x (captured_value cs xs n) h.0 (captured_made pips cs xs n h.1)
    where
      chosen : (b : Bool) (x y : Plain) → IsMade F pips x → IsMade F pips y → IsMade F pips (cond b x y)
      chosen true x y j k = j
      chosen false x y j k = k

  pub local_made : (pips : List Pip) (f : Frame) (n : ℕ) → IsFrameMade pips f → IsMade F pips (local_value f n)
  local_made pips f n h =
      chosen (nat_lt n f.first) (captured_value f.captured f.held n) (unwrap_or (slice_get f.own (n - f.first)) Undefined)
      (captured_made pips f.captured f.held n h.held)
      (there_or (IsMade F pips) (slice_get f.own (n - f.first)) Undefined (at_place (IsMade F pips) f.own (n - f.first) h.own) tt)
    where
      chosen : (b : Bool) (x y : Plain) → IsMade F pips x → IsMade F pips y → IsMade F pips (cond b x y)
      chosen true x y j k = j
      chosen false x y j k = k

  pub captures_made : (pips : List Pip) (locals : List ℕ) (s : State) → IsFrameMade pips s.frame → AreMade F pips (captures locals s)
  captures_made pips [] s h = tt
  captures_made pips (n ∷ ns) s h = (local_made pips s.frame n h, captures_made pips ns s h)

  -- ## Constants

  pub status_made : (pips : List Pip) (table : Table) (file decl : ℕ) → IsTableMade pips table → IsStatusMade pips (status_in table file decl)
  status_made pips table file decl h =
      let row = unwrap_or (slice_get table file) [] in
      let all : AllByRecursion (IsStatusMade pips) row =
      there_or (AllByRecursion (IsStatusMade pips)) (slice_get table file) [] (at_place (AllByRecursion (IsStatusMade pips)) table file h) tt in
      there_or (IsStatusMade pips) (slice_get row decl) Waiting (at_place (IsStatusMade pips) row decl all) tt

  pub marked_made
      : (pips : List Pip) (table : Table) (file decl : ℕ) (status : Status) → IsTableMade pips table → IsStatusMade pips status
      → IsTableMade pips (with_status table file decl status)
  marked_made pips table file decl status h k =
      let row = unwrap_or (slice_get table file) [] in
      let all : AllByRecursion (IsStatusMade pips) row =
      there_or (AllByRecursion (IsStatusMade pips)) (slice_get table file) [] (at_place (AllByRecursion (IsStatusMade pips)) table file h) tt in
      set_at (AllByRecursion (IsStatusMade pips)) table file (slice_set row decl status) h (set_at (IsStatusMade pips) row decl status all k)
