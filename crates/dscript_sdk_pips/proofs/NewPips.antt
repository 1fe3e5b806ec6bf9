-- The values that new pips give.
use Rattle.std.proofs.Common.{◌≡◌, ℕ, Ok, ap, sym, ◌∙◌}
use Rattle.bx_tree.specs.Paths.{Atoms}
use Rattle.bx_tree.specs.declared.file_input.FileInput.TheVariants.{Made}
use Rattle.pip_model_types.specs.declared.pip.PipKind.{PipKind}
use Rattle.dscript_value.specs.Plain as plain
use Rattle.dscript_value.specs.Plain.{Plain, plain_of}
use Rattle.dscript_value.specs.declared.parts.StaticDir.TheVariants.{Seal}
use Rattle.dscript_value.specs.declared.value.Value.TheVariants as values
use Rattle.dscript_sdk_calls.specs.declared.tree_ask.TreeAsk.{TreeAsk}
use Rattle.dscript_sdk_calls.specs.declared.tree_ask.TreeAsk.TheVariants.{Below}
use Rattle.dscript_sdk_values.proofs.Views.{plain-File, plain-Process, plain-Static}
use Rattle.dscript_sdk_pips.specs.States.{State, with_ask, with_pip}

-- the file of a pip
pub file_of_pip : (spec to made : Atoms) (kind : PipKind) (before after : State) (number : ℕ)
    → ((value : ℕ → Plain) → with_pip spec kind value before ≡ Ok (value number, after)) → made ≡ to
    → with_pip spec kind (λ n. plain.File (Made to n)) before ≡ Ok (plain_of (values.File (Made made number)), after)
file_of_pip spec to made kind before after number added same =
    added (λ n. plain.File (Made to n))
    ∙ ap (λ p. Ok (plain.File (Made p number), after)) (sym same)
    ∙ ap (λ (v : Plain). Ok (v, after)) (sym (plain-File (Made made number)))

-- the directory of a seal
pub directory_of_seal : (spec root made : Atoms) (kind : PipKind) (before after : State) (number : ℕ)
    → ((value : ℕ → Plain) → with_pip spec kind value before ≡ Ok (value number, after)) → made ≡ root
    → with_pip spec kind (λ n. plain.Static (Seal n root)) before ≡ Ok (plain_of (values.Static (Seal number made)), after)
directory_of_seal spec root made kind before after number added same =
    added (λ n. plain.Static (Seal n root))
    ∙ ap (λ p. Ok (plain.Static (Seal number p), after)) (sym same)
    ∙ ap (λ (v : Plain). Ok (v, after)) (sym (plain-Static (Seal number made)))

-- the directory of a seal whose call asks for all below it
pub directory_of_asked_seal : (spec root made : Atoms) (kind : PipKind) (ask : TreeAsk) (before after : State) (number : ℕ)
    → ((value : ℕ → Plain) → with_pip spec kind value (with_ask ask before) ≡ Ok (value number, after)) → ask ≡ Below root → made ≡ root
    → with_pip spec kind (λ n. plain.Static (Seal n root)) (with_ask (Below root) before)
    ≡ Ok (plain_of (values.Static (Seal number made)), after)
directory_of_asked_seal spec root made kind ask before after number added asked same =
    directory_of_seal spec root made kind (with_ask (Below root) before) after number
    (λ value. ap (λ (a : TreeAsk). with_pip spec kind value (with_ask a before)) (sym asked) ∙ added value) same

pub process_of_pip : (spec : Atoms) (kind : PipKind) (before after : State) (number : ℕ)
    → ((value : ℕ → Plain) → with_pip spec kind value before ≡ Ok (value number, after))
    → with_pip spec kind plain.Process before ≡ Ok (plain_of (values.Process number), after)
process_of_pip spec kind before after number added =
    added plain.Process ∙ ap (λ (v : Plain). Ok (v, after)) (sym (plain-Process number))
