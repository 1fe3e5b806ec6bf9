-- What is promised of a call, by how it ended.
use Rattle.std.proofs.Common.{◌≡◌, ◌≢◌, ◌⊎◌, ◌↔◌, inl, inr, ℕ, Bool, false, List, Some, refl, sym, subst, arith}
use Rattle.bx_io.specs.Holdings.{Holdings, held_in}
use Rattle.bx_engine_words.specs.Words.{IsBuild, IsCare}
use Rattle.bx_engine_words.specs.declared.order.Order.{Order}
use Rattle.bx_engine_words.specs.declared.order.Order.TheVariants.{Build, Check, Gen, Repair, Trim}
use Rattle.two_phase_meaning.specs.Honest.{Honest}
use Rattle.bx_engine.specs.Beyond.{Beyond, GoesBeyond, OfEachBuild, OfEachCall, OfInput, Unbegun}
use Rattle.bx_engine.specs.Calls.{Call}
use Rattle.bx_engine.specs.Ended.{Answered, Ended, LeftStores, Unanswered}
use Rattle.bx_engine.specs.Expected.{limits_of}
use Rattle.bx_engine.specs.Headline.{Headline, KeepsHeadline}
use Rattle.bx_engine.specs.Known.{IsInput, ReadOf}
use Rattle.bx_engine.specs.Statuses.{HasNoNotes, IsSilent, IsWhole}
use Rattle.bx_engine.specs.Graphs.{SameGraphs}
use Rattle.bx_engine.specs.Stores.{FairGraphStore, FairStore, uses_graphs, uses_store}
use Rattle.bx_engine.specs.declared.status.Status.{Status}
use Rattle.bx_engine.specs.declared.status.Status.TheVariants as statuses
use Rattle.bx_engine.proofs.ExpectedIsWritten as written
use Rattle.bx_engine.proofs.GraphsOfCalls.{graphs_honest}
use Rattle.bx_engine.proofs.ReadingKeepsEnding.{answers_whole, begins_whole, graphs_read, keeps_whole, left_whole, notes_whole, refused_whole, shown_whole, stores_read}
use Rattle.bx_engine.proofs.StatusesDiffer.{answered_status, gone_whole, not_keeper, not_silent, refusal_whole}
use Rattle.bx_engine.proofs.StoresLeft.{left_honest}

-- what is left by what was read of an input is left by the input
pub left_read : (call : Call) (input bytes : List ℕ) (order : Order) → ReadOf input bytes → LeftStores call bytes order → LeftStores call input order
left_read call input bytes order read left = record {
  results = λ held is honest fair.
      left_whole (limits_of order) input bytes held call.store.before call.store.now read
      (left.results held is honest (stores_read order input bytes (held_in call.store.before) (held_in call.store.now) call.graphs read fair));
  graphs = record {
    only = keeps_whole call.graphs (limits_of order) input bytes read left.graphs.only;
    honest = λ fair. left.graphs.honest (graphs_read call.graphs (uses_graphs order) (limits_of order) input bytes read fair);
  };
}

honest_left : (call : Call) (input : List ℕ) (order : Order) → LeftStores call input order
    → FairStore order input (held_in call.store.before) (held_in call.store.now) call.graphs
    → (held now : Holdings) → held_in call.store.before ≡ Some held → Honest held → held_in call.store.now ≡ Some now → Honest now
honest_left call input order left fair held now is honest told =
    left_honest held now call.store.before call.store.now is told (left.results held is honest fair).honest

-- ## Calls that answered nothing

-- a status that is silent, and not that of words that are no command
silent_status : (status : Status) → status ≢ statuses.NoCommand → IsSilent status
    → IsWhole status ⊎ (status ≡ statuses.OutOfMemory) ⊎ (status ≡ statuses.SourceFailed) ⊎ (status ≡ statuses.OutFailed)
silent_status status begun silent = elim silent [
  | inl a ↦ absurd (begun a)
  | inr b ↦ elim b [ inl c ↦ inr (inr (inl c)) | inr d ↦ inr (inl d) ]
]

pub headline_unanswered : (call : Call) (input : List ℕ) (order : Order) → Unanswered call → call.status ≢ statuses.NoCommand → LeftStores call input order
    → (fair : FairStore order input (held_in call.store.before) (held_in call.store.now) call.graphs) → Headline call input order fair
headline_unanswered call input order u begun left fair = record {
  read = λ came. absurd (not_silent call.status came u.silent);
  same = λ whole. absurd (not_silent call.status (inl whole) u.silent);
  memory = λ m. u.out;
  source = λ s. (u.source_cause.rose s, u.out);
  sink = λ cut. absurd (not_silent call.status (inr cut) u.silent);
  status = silent_status call.status begun u.silent;
  honest = honest_left call input order left fair;
  honest_graphs = graphs_honest call.graphs (left.graphs.honest fair.graph_store);
}

pub beyond_unanswered : (call : Call) (input : List ℕ) (order : Order) → Unanswered call → LeftStores call input order
    → (fair : FairStore order input (held_in call.store.before) (held_in call.store.now) call.graphs) → Beyond call input order fair
beyond_unanswered call input order u left fair = record {
  notes = λ whole. absurd (not_silent call.status (inl whole) u.silent);
  left = λ held is honest. left.results held is honest fair;
}

pub input_unanswered : (call : Call) (input : List ℕ) (order : Order) → Unanswered call → LeftStores call input order → OfInput call input order
input_unanswered call input order u left = record {
  refused_input = λ r. absurd (not_silent call.status (inl (refusal_whole call.status (inl r))) u.silent);
  refused = λ r. absurd (not_silent call.status (inl (refusal_whole call.status r)) u.silent);
  kept_graphs = left.graphs.only;
  graphs_left = left.graphs.honest;
  shown = λ gone. absurd (not_silent call.status (inl (gone_whole call.status gone)) u.silent);
}

pub build_unanswered : (call : Call) → Unanswered call → OfEachBuild call
build_unanswered call u = record {
  status = inr (inl u.silent);
  read = λ came. absurd (not_silent call.status came u.silent);
  rest = λ came. absurd (not_silent call.status came u.silent);
  tree = λ whole. absurd (not_silent call.status (inl whole) u.silent);
  tree_begun = λ cut. absurd (not_silent call.status (inr cut) u.silent);
  puts = u.puts;
  graph_puts = u.graph_puts;
}

pub each_unanswered : (call : Call) → Unanswered call → (HasNoNotes call.status → call.notes.now ≡ call.notes.before)
    → (call.status ≡ statuses.NoCommand → Unbegun call) → OfEachCall call
each_unanswered call u quiet unbegun = record {
  status = inr (inl u.silent);
  gives = u.gives;
  silent = λ s. u.out;
  quiet = quiet;
  unbegun = unbegun;
  source_cause = u.source_cause;
  source_no_fault = u.source_no_fault;
  out_cause = record { later = omega (arith, u.out_faults); rose = λ cut. absurd (not_silent call.status (inr cut) u.silent) };
  out_no_fault = λ n. u.out_faults;
  store_cause = record { later = u.later; rose = λ k. absurd (not_keeper call.status (inr (inl u.silent)) k) };
}

-- ## Calls that answered

came_to : (order : Order) (call : Call) → Answered order call → IsWhole call.status ⊎ (call.status ≡ statuses.OutFailed)
came_to order call a = answered_status a.response.status call.status a.responds.whole a.status

pub headline_answered : (call : Call) (input : List ℕ) (order : Order) (a : Answered order call) → ReadOf input a.bytes
    → (fair : FairStore order input (held_in call.store.before) (held_in call.store.now) call.graphs) → Headline call input order fair
headline_answered call input order a read fair =
    let came = came_to order call a in
    let here : FairStore order a.bytes (held_in call.store.before) (held_in call.store.now) call.graphs =
    stores_read order input a.bytes (held_in call.store.before) (held_in call.store.now) call.graphs read fair in
    record {
      read = λ done. a.read_out;
      same = λ whole.
          answers_whole order input a.bytes call.status call.out.before call.out.now read
          (written.answered order a.bytes a.response.status call.status a.response.bytes.items call.out.before call.out.now (a.responds.expected here) a.status whole
          (a.written whole));
      memory = λ m. absurd (not_silent call.status came (inr (inr m)));
      source = λ s. absurd (not_silent call.status came (inr (inl s)));
      sink = λ cut. (
        a.out_cause.rose cut,
        begins_whole order input a.bytes call.out.before call.out.now read
            (written.begun order a.bytes a.response.status a.response.bytes.items call.out.before call.out.now (a.responds.expected here) (a.begun cut)),
      );
      status = elim came [ inl whole ↦ inl whole | inr cut ↦ inr (inr (inr cut)) ];
      honest = honest_left call input order (left_read call input a.bytes order read a.left) fair;
      honest_graphs = graphs_honest call.graphs ((left_read call input a.bytes order read a.left).graphs.honest fair.graph_store);
    }

pub beyond_answered : (call : Call) (input : List ℕ) (order : Order) (a : Answered order call) → ReadOf input a.bytes
    → (fair : FairStore order input (held_in call.store.before) (held_in call.store.now) call.graphs) → Beyond call input order fair
beyond_answered call input order a read fair =
    let here : FairStore order a.bytes (held_in call.store.before) (held_in call.store.now) call.graphs =
    stores_read order input a.bytes (held_in call.store.before) (held_in call.store.now) call.graphs read fair in
    record {
      notes = λ whole.
          notes_whole call input a.bytes order read
          (written.noted call a.bytes order a.response.status a.response.notes.items (a.responds.noted here) a.status whole (a.noted whole));
      left = λ held is honest. (left_read call input a.bytes order read a.left).results held is honest fair;
    }

pub input_answered : (call : Call) (input : List ℕ) (order : Order) (a : Answered order call) → ReadOf input a.bytes → OfInput call input order
input_answered call input order a read = record {
  refused_input = λ r.
      answers_whole order input a.bytes call.status call.out.before call.out.now read
      (written.refused_input order a.bytes a.response.status call.status a.response.bytes.items call.out.before call.out.now
      a.responds.refused_input a.status r a.written);
  refused = λ r.
      refused_whole order input a.bytes call.status call.out.before call.out.now call.graphs read
      (written.refused order a.bytes a.response.status call.status a.response.bytes.items call.out.before call.out.now
      (FairGraphStore order a.bytes call.graphs) a.responds.refused a.status r a.written);
  kept_graphs = (left_read call input a.bytes order read a.left).graphs.only;
  graphs_left = (left_read call input a.bytes order read a.left).graphs.honest;
  shown = λ gone. shown_whole call input a.bytes order read (written.shown call a.bytes order a.response a.responds.went a.status gone a.written a.noted);
}

pub build_answered : (order : Order) (call : Call) → Answered order call → OfEachBuild call
build_answered order call a = record {
  status = elim (came_to order call a) [ inl whole ↦ inl whole | inr cut ↦ inr (inr cut) ];
  read = λ done. a.read_out;
  rest = λ done. a.rest;
  tree = λ whole. written.tree_written a.response.bytes.items call.out.before call.out.now a.responds.text (a.written whole);
  tree_begun = λ cut. written.tree_begun a.response.bytes.items call.out.before call.out.now a.responds.text (a.begun cut);
  puts = a.puts;
  graph_puts = a.graph_puts;
}

pub each_answered : (order : Order) (call : Call) → Answered order call → (HasNoNotes call.status → call.notes.now ≡ call.notes.before) → OfEachCall call
each_answered order call a quiet =
    let came = came_to order call a in
    record {
      status = elim came [ inl whole ↦ inl whole | inr cut ↦ inr (inr (inl cut)) ];
      gives = a.gives;
      silent = λ s. absurd (not_silent call.status came s);
      quiet = quiet;
      unbegun = λ n. absurd (not_silent call.status came (inl n));
      source_cause = record { later = omega (arith, a.source); rose = λ s. absurd (not_silent call.status came (inr (inl s))) };
      source_no_fault = λ n. a.source;
      out_cause = a.out_cause;
      out_no_fault = a.out_no_fault;
      store_cause = record {
        later = a.later;
        rose = λ k. absurd (not_keeper call.status (elim came [ inl whole ↦ inl whole | inr cut ↦ inr (inr cut) ]) k);
      };
    }

-- ## Builds

pub headline_ended : (order : Order) (call : Call) → call.status ≢ statuses.NoCommand → Ended order call → (input : List ℕ) → IsInput call.source input
    → (fair : FairStore order input (held_in call.store.before) (held_in call.store.now) call.graphs) → Headline call input order fair
headline_ended order call begun (inl u) input asked fair = headline_unanswered call input order u.0 begun (u.1 input asked) fair
headline_ended order call begun (inr a) input asked fair = headline_answered call input order a (a.read input asked) fair

-- an order that is to build is none that is not
pub build_no_other : (order other : Order) → (IsBuild other → ⊥) → IsBuild order → order ≡ other → ⊥
build_no_other order other no_build builds same = no_build (subst IsBuild same builds)

-- no order to build is one to care for the store
pub build_no_care : (order : Order) → IsBuild order → IsCare order → ⊥
build_no_care (Build workers cached eval_budget tool_budget types graphs) build care = care
build_no_care Check build care = build
build_no_care Repair build care = build
build_no_care (Trim keep) build care = build
build_no_care (Gen seed pips) build care = build

-- ## Orders

-- what is so of one order is so of the orders that words come to, where they come to that one alone
pub headline_of : (asked : Order → Type 0) (order : Order) (call : Call) → ((o : Order) → asked o → order ≡ o) → call.status ≢ statuses.NoCommand → Ended order call
    → KeepsHeadline (λ o. asked o × IsBuild o) call
headline_of asked order call one begun ended = λ o input is given fair.
    subst (λ (x : Order). (f : FairStore x input (held_in call.store.before) (held_in call.store.now) call.graphs) → Headline call input x f) (one o is.0)
    (headline_ended order call begun ended input given) fair

-- the status says that words are no order just where they are none
pub some_order : (asked : Order → Type 0) (order : Order) (status : Status) → asked order → status ≢ statuses.NoCommand
    → (status ≡ statuses.NoCommand) ↔ ((o : Order) → asked o → ⊥)
some_order asked order status is begun = (λ e. absurd (begun e), λ none. absurd (none order is))

-- of a build there is nothing to say of a check, a repair, a trim or a workload
pub beyond_of : (asked : Order → Type 0) (order : Order) (call : Call) → asked order → ((o : Order) → asked o → order ≡ o) → IsBuild order
    → call.status ≢ statuses.NoCommand → (HasNoNotes call.status → call.notes.now ≡ call.notes.before)
    → (uses_store order ≡ false → call.store.now ≡ call.store.before) → (uses_graphs order ≡ false → SameGraphs call.graphs)
    → Ended order call → GoesBeyond asked call
beyond_of asked order call is one builds begun quiet unused unused_graphs (inl u) = record {
  fair = λ o input asks build given fair.
      beyond_unanswered call input o u.0 (subst (λ (x : Order). LeftStores call input x) (one o asks) (u.1 input given)) fair;
  of_input = λ o input asks build given.
      input_unanswered call input o u.0 (subst (λ (x : Order). LeftStores call input x) (one o asks) (u.1 input given));
  of_each_build = λ o asks build. build_unanswered call u.0;
  unused = λ o asks off. unused (subst (λ (x : Order). uses_store x ≡ false) (sym (one o asks)) off);
  unused_graphs = λ o asks off. unused_graphs (subst (λ (x : Order). uses_graphs x ≡ false) (sym (one o asks)) off);
  check = λ asks. absurd (build_no_other order Check (λ b. b) builds (one Check asks));
  repair = λ asks. absurd (build_no_other order Repair (λ b. b) builds (one Repair asks));
  trim = λ keep asks. absurd (build_no_other order (Trim keep) (λ b. b) builds (one (Trim keep) asks));
  of_each_care = λ o asks care. absurd (build_no_care o (subst IsBuild (one o asks) builds) care);
  gen = λ seed pips asks. absurd (build_no_other order (Gen seed pips) (λ b. b) builds (one (Gen seed pips) asks));
  none = some_order asked order call.status is begun;
  of_each_call = each_unanswered call u.0 quiet (λ n. absurd (begun n));
}
beyond_of asked order call is one builds begun quiet unused unused_graphs (inr a) = record {
  fair = λ o input asks build given fair.
      subst (λ (x : Order). (f : FairStore x input (held_in call.store.before) (held_in call.store.now) call.graphs) → Beyond call input x f) (one o asks)
      (beyond_answered call input order a (a.read input given)) fair;
  of_input = λ o input asks build given.
      subst (λ (x : Order). OfInput call input x) (one o asks) (input_answered call input order a (a.read input given));
  of_each_build = λ o asks build. build_answered order call a;
  unused = λ o asks off. unused (subst (λ (x : Order). uses_store x ≡ false) (sym (one o asks)) off);
  unused_graphs = λ o asks off. unused_graphs (subst (λ (x : Order). uses_graphs x ≡ false) (sym (one o asks)) off);
  check = λ asks. absurd (build_no_other order Check (λ b. b) builds (one Check asks));
  repair = λ asks. absurd (build_no_other order Repair (λ b. b) builds (one Repair asks));
  trim = λ keep asks. absurd (build_no_other order (Trim keep) (λ b. b) builds (one (Trim keep) asks));
  of_each_care = λ o asks care. absurd (build_no_care o (subst IsBuild (one o asks) builds) care);
  gen = λ seed pips asks. absurd (build_no_other order (Gen seed pips) (λ b. b) builds (one (Gen seed pips) asks));
  none = some_order asked order call.status is begun;
  of_each_call = each_answered order call a quiet;
}

-- what is so of one order is so of the words that come to it alone
pub headline_asked : (asked : Order → Type 0) (order : Order) (call : Call) → ((o : Order) → asked o → order ≡ o)
    → KeepsHeadline (λ o. (order ≡ o) × IsBuild o) call → KeepsHeadline (λ o. asked o × IsBuild o) call
headline_asked asked order call one h = λ o input is given fair. h o input (one o is.0, is.1) given fair

pub beyond_asked : (asked : Order → Type 0) (order : Order) (call : Call) → asked order → ((o : Order) → asked o → order ≡ o)
    → GoesBeyond (λ o. order ≡ o) call → GoesBeyond asked call
beyond_asked asked order call is one h = record {
  fair = λ o input asks. h.fair o input (one o asks);
  of_input = λ o input asks. h.of_input o input (one o asks);
  of_each_build = λ o asks. h.of_each_build o (one o asks);
  unused = λ o asks. h.unused o (one o asks);
  unused_graphs = λ o asks. h.unused_graphs o (one o asks);
  check = λ asks. h.check (one Check asks);
  repair = λ asks. h.repair (one Repair asks);
  trim = λ keep asks. h.trim keep (one (Trim keep) asks);
  of_each_care = λ o asks. h.of_each_care o (one o asks);
  gen = λ seed pips asks. h.gen seed pips (one (Gen seed pips) asks);
  none = (λ e. absurd (h.none.0 e order refl), λ none. absurd (none order is));
  of_each_call = h.of_each_call;
}

-- that words are no command does not say that nothing was noted
no_command_notes : (status : Status) → status ≡ statuses.NoCommand → HasNoNotes status → ⊥
no_command_notes status none quiet = elim quiet [
  | inl a ↦ cc
  | inr b ↦ elim b [
    | inl c ↦ cc
    | inr d ↦ elim d [ inl e ↦ cc | inr f ↦ elim f [ inl g ↦ cc | inr k ↦ elim k [ inl m ↦ cc | inr n ↦ cc ] ] ]
  ]
]

-- words that are no command come to no order
pub beyond_none : (asked : Order → Type 0) (call : Call) → ((o : Order) → asked o → ⊥) → call.status ≡ statuses.NoCommand → Unbegun call → Unanswered call
    → GoesBeyond asked call
beyond_none asked call none is unbegun u = record {
  fair = λ o input asks build given fair. absurd (none o asks);
  of_input = λ o input asks build given. absurd (none o asks);
  of_each_build = λ o asks build. absurd (none o asks);
  unused = λ o asks off. absurd (none o asks);
  unused_graphs = λ o asks off. absurd (none o asks);
  check = λ asks. absurd (none Check asks);
  repair = λ asks. absurd (none Repair asks);
  trim = λ keep asks. absurd (none (Trim keep) asks);
  of_each_care = λ o asks care. absurd (none o asks);
  gen = λ seed pips asks. absurd (none (Gen seed pips) asks);
  none = (λ e. none, λ n. is);
  of_each_call = each_unanswered call u (λ q. absurd (no_command_notes call.status is q)) (λ n. unbegun);
}
