-- What is the same in the body of a callback.
use Rattle.std.proofs.Common.{◌≡◌, ℕ, None, Option, Some, ap, arith, subst, sym}
use Rattle.dscript_program.specs.ProgramData.{ProgramData}
use Rattle.dscript_program.specs.Views.{program_data}
use Rattle.dscript_types_known.specs.Matching.{FoundLocal, LocalMatches}
use Rattle.dscript_types_known.specs.Tables.{IsClosedTo, IsRight, TableData}
use Rattle.dscript_types_known.specs.Views.{locals_at}
use Rattle.dscript_types_meaning.specs.Contexts.{Context, Local, local_at}
use Rattle.dscript_types_meaning.specs.Typed.{reach}
use Rattle.dscript_types_notes.proofs.Parts.{tells_under}
use Rattle.dscript_types_notes.specs.Means.{IsSound, program_of}
use Rattle.dscript_types_notes.specs.Names.{IsIndexOf}
use Rattle.dscript_types_notes.specs.declared.world.World.{World}
use Rattle.dscript_types_scenes.specs.Scenes.{Closed, IsBelow, Matches}
use Rattle.dscript_types_scenes.specs.declared.scene.Scene.{Scene}

local_under
    : (more less : Type 0) (n : ℕ) (f : Option FoundLocal) (l : Option Local) → (more → less)
    → LocalMatches less n f l → LocalMatches more n f l
local_under more less n None None h m = m
local_under more less n None (Some l) h m = m
local_under more less n (Some f) None h m = m
local_under more less n (Some f) (Some l) h m = (m.0, tells_under more less n f.type_data l.type_data h m.1)

-- where less is assumed
pub matches_under
    : (more less : Type 0) (n : ℕ) (scene : Scene) (c : Context) → (more → less) → Matches less n scene c → Matches more n scene c
matches_under more less n scene c h m = record {
  place = m.place;
  locals = λ number. local_under more less n (locals_at scene.locals number) (local_at c number) h (m.locals number);
}

module _ (w b : World) (is : IsBelow w (Some b)) where
  pub same_program : program_of b ≡ program_of w
  same_program = ap (λ p. program_data p.now) is.0

  same_table : b.table.now ≡ w.table.now
  same_table = ap (λ t. t.now) is.2

  pub closed_below : (n : ℕ) → Closed w n → Closed b n
  closed_below n h =
      subst (λ (t : TableData). IsClosedTo (program_of b) t n) (sym same_table)
      (subst (λ (p : ProgramData). IsClosedTo p w.table.now n) (sym same_program) h)

  pub closed_above : (n : ℕ) → Closed b n → Closed w n
  closed_above n h =
      subst (λ (t : TableData). IsClosedTo (program_of w) t n) same_table
      (subst (λ (p : ProgramData). IsClosedTo p b.table.now n) same_program h)

  pub sound_below : IsSound w → IsSound b
  sound_below sound = record {
    names =
        subst (λ (p : ProgramData). IsIndexOf p b.names.now) (sym same_program)
        (subst (λ n. IsIndexOf (program_of w) n) (sym (ap (λ n. n.now) is.1)) sound.names);
    right =
        subst (λ (p : ProgramData). IsRight p b.table.now) (sym same_program)
        (subst (λ (t : TableData). IsRight (program_of w) t) (sym same_table) sound.right);
    within = omega (arith, is.3, sound.within, ap reach same_program);
  }
