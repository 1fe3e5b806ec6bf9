-- What a reader tells, if there is one.
use Rattle.std.proofs.Common.{◌≡◌, ◌⊎◌, ℕ, true, false, List, Option, Some, None, refl, ap, sym, ◌∙◌, subst, inl, inr}
use Rattle.std.specs.Prelude.{IsNone, IsSome, IfSome, is_some, option_map}
use Rattle.std.proofs.lemmas.Option.{same_Some}
use Rattle.bx_tree.specs.Trees.{Files}
use Rattle.bx_io.specs.Holdings.{Holdings}
use Rattle.pip_model_types.specs.declared.desc.Desc.{Desc}
use Rattle.pip_model_types.specs.declared.pip.Pip.{Pip}
use Rattle.observed.specs.declared.ask.Ask.{Ask}
use Rattle.observed.specs.declared.access.Answer.{Answer}
use Rattle.two_phase.specs.Reading.{ReaderData, ReadsIfAny, ReadsOn}
use Rattle.retire.specs.Builds.{IsFair}
use Rattle.retire.specs.Taking.{TakesBy, TakesFrom}
use Rattle.retire.specs.declared.taking.Taken.{Taken}

-- There is a reader, which tells that this is held.
pub record IsTold (reader : Option ReaderData) (S : Holdings) : Type 0 where
  pub seen : ReaderData
  pub is : reader ≡ Some seen
  pub held : seen.held ≡ Some S

-- nothing is read, or what is held is fair
abbrev pub IsRight : List Pip → Files → ℕ → Option ReaderData → Type 0
IsRight pips tree budget reader = (reader ≡ None) ⊎ ((S : Holdings) × IsTold reader S × IsFair pips tree budget S)

pub told_takes : (reader : Option ReaderData) (S : Holdings) (d : Desc) (see : Ask → Answer) (t : Taken) → IsTold reader S → TakesBy reader d see t → TakesFrom S d see t
told_takes reader S d see t told takes = (subst (λ (r : Option ReaderData). TakesBy r d see t) told.is takes) S told.held

-- what is told now was told before
pub told_before : (a b : Option ReaderData) (n : ℕ) (S : Holdings) → ReadsIfAny a b n → IsTold b S → IsTold a S
told_before a None n S reads told = let never : None ≡ Some told.seen = told.is in absurd cc
told_before None (Some y) n S reads told = absurd reads
told_before (Some x) (Some y) n S reads told = record {
  seen = x;
  is = refl;
  held = reads.held_is S (ap (λ (r : ReaderData). r.held) (same_Some y told.seen told.is) ∙ told.held);
}

pub none_before : (a b : Option ReaderData) (n : ℕ) → ReadsIfAny a b n → b ≡ None → a ≡ None
none_before None b n reads e = refl
none_before (Some x) None n reads e = absurd reads
none_before (Some x) (Some y) n reads e = let never : Some y ≡ None = e in absurd cc

pub none_after : (a b : Option ReaderData) (n : ℕ) → ReadsIfAny a b n → a ≡ None → b ≡ None
none_after a None n reads e = refl
none_after None (Some y) n reads e = absurd reads
none_after (Some x) (Some y) n reads e = let never : Some x ≡ None = e in absurd cc

pub same_there : (a b : Option ReaderData) (n : ℕ) → ReadsIfAny a b n → is_some a ≡ is_some b
same_there None None n reads = refl
same_there None (Some y) n reads = absurd reads
same_there (Some x) None n reads = absurd reads
same_there (Some x) (Some y) n reads = refl

pub none_counted_reads : (a b : Option ReaderData) (n : ℕ) → ReadsIfAny a b n → b ≡ None → n ≡ 0
none_counted_reads None None n reads e = reads
none_counted_reads None (Some y) n reads e = absurd reads
none_counted_reads (Some x) None n reads e = absurd reads
none_counted_reads (Some x) (Some y) n reads e = let never : Some y ≡ None = e in absurd cc

pub right_before : (pips : List Pip) (tree : Files) (budget : ℕ) (a b : Option ReaderData) (n : ℕ) → ReadsIfAny a b n → IsRight pips tree budget b → IsRight pips tree budget a
right_before pips tree budget a b n reads right = elim right [
  | inl none ↦ inl (none_before a b n reads none)
  | inr over ↦ inr (over.0, told_before a b n over.0 reads over.1, over.2)
]

-- by the words of clauses
pub told_of : (reader : Option ReaderData) (S : Holdings) → IfSome reader (λ r. r.held ≡ Some S) → IsSome reader → IsTold reader S
told_of None S held some = let never : false ≡ true = some in absurd cc
told_of (Some r) S held some = record { seen = r; is = refl; held = held }

pub there_is : (reader : Option ReaderData) → is_some reader ≡ true → (r : ReaderData) × (reader ≡ Some r)
there_is None e = absurd cc
there_is (Some r) e = (r, refl)

-- ## Readers as they are seen

pub some_mapped : {R : Type 0} (f : R → ReaderData) (o : Option R) → is_some (option_map f o) ≡ is_some o
some_mapped f None = refl
some_mapped f (Some r) = refl

pub mapped : {R : Type 0} (f : R → ReaderData) (P : ReaderData → Type 0) (o : Option R) → IfSome o (λ r. P (f r)) → IfSome (option_map f o) P
mapped f P None h = tt
mapped f P (Some r) h = h

pub none_mapped : {R : Type 0} (f : R → ReaderData) (o : Option R) → is_some o ≡ false → option_map f o ≡ None
none_mapped f None e = refl
none_mapped f (Some r) e = let never : true ≡ false = e in absurd cc

-- what is told now was told before, where there is a reader
pub held_before : (a b : Option ReaderData) (n : ℕ) (S : Holdings) → ReadsIfAny a b n → IfSome b (λ r. r.held ≡ Some S) → IfSome a (λ r. r.held ≡ Some S)
held_before None None n S reads held = tt
held_before None (Some y) n S reads held = absurd reads
held_before (Some x) None n S reads held = absurd reads
held_before (Some x) (Some y) n S reads held = reads.held_is S held

pub none_is : {R : Type 0} (f : R → ReaderData) (o : Option R) → IsNone o → option_map f o ≡ None
none_is f None e = refl
none_is f (Some r) e = let never : true ≡ false = e in absurd cc

pub told_some : (reader : Option ReaderData) (S : Holdings) → IsTold reader S → IfSome reader (λ r. r.held ≡ Some S)
told_some None S told = tt
told_some (Some r) S told = ap (λ (x : ReaderData). x.held) (same_Some r told.seen told.is) ∙ told.held

pub told_there : (reader : Option ReaderData) (S : Holdings) → IsTold reader S → is_some reader ≡ true
told_there None S told = let never : None ≡ Some told.seen = told.is in absurd cc
told_there (Some r) S told = refl

pub none_given : (reader : Option ReaderData) (P : ReaderData → Type 0) → reader ≡ None → IfSome reader P
none_given None P e = tt
none_given (Some r) P e = let never : Some r ≡ None = e in absurd cc

-- a reader that is there was read
pub read_on : {R : Type 0} (f : R → ReaderData) (o : Option R) (r : R) (after : ReaderData) (n : ℕ) → o ≡ Some r → ReadsOn (f r) after n
    → ReadsIfAny (option_map f o) (Some after) n
read_on f o r after n is h = subst (λ x. ReadsIfAny (option_map f x) (Some after) n) (sym is) h
