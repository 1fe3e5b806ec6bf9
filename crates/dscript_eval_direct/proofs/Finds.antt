-- What calls find of members and indices.
use Rattle.std.proofs.Common.{◌≡◌, ℕ, List, map, IfSome, Option, Some, None, Ok, refl, ap, sym, subst, ◌∙◌}
use Rattle.std.specs.Prelude.{slice_get}
use Rattle.std.specs.declared.alloc.Global.{Global}
use Rattle.std.specs.declared.vec.Vec.{Vec}
use Rattle.dscript_program.specs.BoundTree as tree
use Rattle.dscript_program.specs.BoundTree.{ExprData, PartData, PartRow, more_parts}
use Rattle.dscript_value.specs.Plain.{Plain, plain_of}
use Rattle.dscript_value.specs.declared.value.Value.{Value}
use Rattle.dscript_program.specs.Views.{program_data}
use Rattle.bx_tree.specs.Paths.{Atoms}
use Rattle.dscript_program.specs.declared.ambient.Ambient.{Ambient as AmbientCall}
use Rattle.dscript_program.specs.declared.ambient.Ambient.TheVariants as calls
use Rattle.dscript_sdk.specs.Calls.{call_of}
use Rattle.dscript_sdk_calls.specs.ArtifactInput.{artifact_input}
use Rattle.dscript_sdk_calls.specs.ArtifactNone.{artifact_none}
use Rattle.dscript_sdk_calls.specs.ArtifactOutput.{artifact_output}
use Rattle.dscript_sdk_calls.specs.CmdArgument.{cmd_argument}
use Rattle.dscript_sdk_calls.specs.CmdFlag.{cmd_flag}
use Rattle.dscript_sdk_calls.specs.CmdOption.{cmd_option}
use Rattle.dscript_sdk_pips.specs.States.{State, unchanged}
use Rattle.dscript_sdk_values.specs.Outcomes.{Outcome}
use Rattle.dscript_eval_frames.specs.Statuses.{statuses}
use Rattle.dscript_eval_frames.specs.Views.{seen}
use Rattle.dscript_eval_frames.specs.declared.machine.Machine.{Machine}
use Rattle.dscript_eval_frames.specs.declared.status.Status.{Status}
use Rattle.dscript_eval_frames.proofs.OwnLocals.{own_first}
use Rattle.dscript_eval_direct.specs.Now.{FollowsAtOnce, IsAtOnce, Knowledge, Knows}
use Rattle.dscript_eval_direct.proofs.Makes.{postfix_gives}

module _ (known : Knowledge) where
  pub postfix_found
      : (r : Option (Value × ℕ)) (e : ExprData) (parts : PartRow) (x : Plain) (left mid : ℕ) → IsAtOnce known e left x mid
      → IfSome r (λ y. FollowsAtOnce known parts x mid (plain_of y.0) y.1)
      → IfSome r (λ y. IsAtOnce known (tree.Postfix e parts) left (plain_of y.0) y.1)
  postfix_found (Some y) e parts x left mid head rest =
      postfix_gives known e parts x (plain_of y.0) left mid y.1 head rest
  postfix_found None e parts x left mid head rest = rest

  pub part_found
      : (r : Option (Value × ℕ)) (d e : PartData) (x : Plain) (left : ℕ) → d ≡ e
      → IfSome r (λ z. (more : PartRow) (y : Plain) (later : ℕ) → FollowsAtOnce known more (plain_of z.0) z.1 y later
      → FollowsAtOnce known (more_parts e more) x left y later)
      → IfSome r (λ z. (more : PartRow) (y : Plain) (later : ℕ) → FollowsAtOnce known more (plain_of z.0) z.1 y later
      → FollowsAtOnce known (more_parts d more) x left y later)
  part_found (Some z) d e x left is found = λ more y later rest.
      let P : PartData → Type 0 = λ a. FollowsAtOnce known (more_parts a more) x left y later in
      subst P (sym is) (found more y later rest)
  part_found None d e x left is found = found

-- what is known in the running body
pub known_of
    : (m : Machine) (k : Knowledge) (own : List Value) (constants : List (Vec Status Global)) → own ≡ m.frame.own.items
    → constants ≡ m.constants.items
    → k ≡ record {
      files = (program_data m.program.now).files;
      file = m.frame.file;
      first = m.frame.first;
      own = map plain_of own;
      constants = statuses constants;
    }
    → Knows k (seen m).program (seen m).state
known_of m k own constants own_is constants_is is =
    let P : Knowledge → Type 0 = λ q. Knows q (seen m).program (seen m).state in
    subst P (sym is) (record {
      files_are = refl;
      file_is = refl;
      first_is = refl;
      own_are = λ n x there. own_first m.frame.own.items m.frame.far m.frame.count n x
          (ap (λ (l : List Value). slice_get (map plain_of l) n) (sym own_is) ∙ there);
      constants_are = ap statuses (sym constants_is);
    })

-- ## Ambient calls that change nothing

pub calls_give
    : (r : Option Value) (name call : AmbientCall) (args : List Plain) (o : Outcome Plain) → name ≡ call
    → ((spec : Atoms) (s : State) → call_of call spec args s ≡ unchanged o s) → IfSome r (λ x. o ≡ Ok (plain_of x))
    → IfSome r (λ x. (spec : Atoms) (s : State) → call_of name spec args s ≡ Ok (plain_of x, s))
calls_give (Some x) name call args o is same found = λ spec s.
    ap (λ n. call_of n spec args s) is ∙ same spec s ∙ ap (λ (p : Outcome Plain). unchanged p s) found
calls_give None name call args o is same found = found

pub cmd_argument_is
    : (args : List Plain) (spec : Atoms) (s : State) → call_of calls.CmdArgument spec args s ≡ unchanged (cmd_argument args) s
unfolding call_of
cmd_argument_is args spec s = refl

pub cmd_option_is
    : (args : List Plain) (spec : Atoms) (s : State) → call_of calls.CmdOption spec args s ≡ unchanged (cmd_option args) s
unfolding call_of
cmd_option_is args spec s = refl

pub cmd_flag_is
    : (args : List Plain) (spec : Atoms) (s : State) → call_of calls.CmdFlag spec args s ≡ unchanged (cmd_flag args) s
unfolding call_of
cmd_flag_is args spec s = refl

pub artifact_input_is
    : (args : List Plain) (spec : Atoms) (s : State)
    → call_of calls.ArtifactInput spec args s ≡ unchanged (artifact_input args) s
unfolding call_of
artifact_input_is args spec s = refl

pub artifact_output_is
    : (args : List Plain) (spec : Atoms) (s : State)
    → call_of calls.ArtifactOutput spec args s ≡ unchanged (artifact_output args) s
unfolding call_of
artifact_output_is args spec s = refl

pub artifact_none_is
    : (args : List Plain) (spec : Atoms) (s : State) → call_of calls.ArtifactNone spec args s ≡ unchanged (artifact_none args) s
unfolding call_of
artifact_none_is args spec s = refl
