-- The entries and the files among things in memory.
use Rattle.std.proofs.Common.{◌≡◌, ℕ, ◌<◌, ◌+◌, Bool, true, false, cond, not, List, [], ◌∷◌, ◌++◌, length, get_or, take, refl, ap, sym, subst, ◌∙◌, inl, inr, arith}
use Rattle.std.specs.Prelude.{Contains, filter, map, string_bytes}
use Rattle.std.specs.List.{Any}
use Rattle.std.specs.Borrow.{Bor}
use Rattle.std.proofs.lemmas.List.Elements.{Contains-append_left, Contains-push, Contains-push_cases}
use Rattle.std.proofs.lemmas.List.{map_more, map_push}
use Rattle.bundle_folder.specs.Answers.{ListsNodes, entry_data, kind_of}
use Rattle.bundle_folder.specs.Folders.{AllApart, IsFolder, IsFree, Node, Nodes, IsListed, without}
use Rattle.bundle_folder.specs.Stored.{placed, stored}
use Rattle.bundle_folder.specs.declared.mem_folder.Placed.{Placed}
use Rattle.bundle_folder.specs.Places.{IsApart, IsLeftOut, IsWithin, is_within}
use Rattle.bundle_folder.proofs.Free.{from_map, to_map}
use Rattle.bundle_folder.specs.declared.folder.Entry.{Entry}
use Rattle.bx_tree.specs.Lent.{texts_now}

-- ## Things one after another

-- the nodes of one more thing
pub stored_more : (things : List Placed) (i : ℕ) (thing : Placed) → i < length things → thing ≡ get_or things i thing
    → stored (take (i + 1) things) ≡ stored (take i things) ++ placed thing ∷ []
stored_more things i thing l e =
    map_more placed things i thing l ∙ ap (λ (p : Placed). stored (take i things) ++ placed p ∷ []) (sym e)

-- a thing is among the nodes
pub stored_has : (things : List Placed) (i : ℕ) (thing : Placed) → i < length things → thing ≡ get_or things i thing
    → Contains (stored things) (placed thing)
stored_has things i thing l e = to_map placed things thing (i, l, sym e)

filter_pushed : (b : Bool) (thing : Placed) (things : List Placed) (nodes : Nodes) → stored things ≡ nodes
    → stored (cond b (thing ∷ things) things) ≡ cond b (placed thing ∷ nodes) nodes
filter_pushed true thing things nodes e = ap (λ ns. placed thing ∷ ns) e
filter_pushed false thing things nodes e = e

-- the nodes of the things outside a place
pub stored_outside : (top : List ℕ) (things : List Placed)
    → stored (filter (λ (p : Placed). not (is_within (string_bytes p.place) top)) things) ≡ without top (stored things)
stored_outside top [] = refl
stored_outside top (thing ∷ things) =
    filter_pushed (not (is_within (string_bytes thing.place) top)) thing
    (filter (λ (p : Placed). not (is_within (string_bytes p.place) top)) things) (without top (stored things)) (stored_outside top things)

-- what is apart from all nodes and from one more
pub apart_more : (nodes : Nodes) (next : List ℕ × Node) (place : List ℕ) → AllApart nodes place → IsApart place next.0
    → AllApart (nodes ++ next ∷ []) place
apart_more nodes next place all one other node h = elim (Contains-push_cases nodes next (other, node) h) [
  | inl c ↦ all other node c
  | inr e ↦ subst (λ (n : List ℕ × Node). IsApart place n.0) e one
]

pub none_apart : (place : List ℕ) → AllApart [] place
none_apart place other node h = absurd (omega (arith, h.1))

-- ## Entries

pub no_entries : (left_out : List (List ℕ)) → ListsNodes left_out [] []
no_entries left_out = record {
  held = λ entry c. absurd (omega (arith, c.1));
  all = λ place node h. absurd (omega (arith, h.there.1));
}

-- a node in more nodes
more_listed : (left_out : List (List ℕ)) (nodes : Nodes) (next : List ℕ × Node) (place : List ℕ) (node : Node)
    → IsListed left_out nodes place node → IsListed left_out (nodes ++ next ∷ []) place node
more_listed left_out nodes next place node h =
    record { there = Contains-append_left nodes (next ∷ []) (place, node) h.there; counts = h.counts }

-- one more node that is left out
pub left_out_more : (left_out : List (List ℕ)) (nodes : Nodes) (entries : List Entry) (next : List ℕ × Node)
    → ListsNodes left_out nodes entries → IsLeftOut left_out next.0 → ListsNodes left_out (nodes ++ next ∷ []) entries
left_out_more left_out nodes entries next lists out = record {
  held = λ entry c. let is = lists.held entry c in (is.0, more_listed left_out nodes next (string_bytes entry.place) is.0 is.1, is.2);
  all = λ place node h. elim (Contains-push_cases nodes next (place, node) h.there) [
    | inl c ↦ lists.all place node (record { there = c; counts = h.counts })
    | inr e ↦ absurd (h.counts (subst (λ (n : List ℕ × Node). IsLeftOut left_out n.0) e out))
  ];
}

-- one more node with its entry
pub entries_more : (left_out : List (List ℕ)) (nodes : Nodes) (entries : List Entry) (next : List ℕ × Node) (entry : Entry)
    → ListsNodes left_out nodes entries → ¬ IsLeftOut left_out next.0 → string_bytes entry.place ≡ next.0 → entry.kind ≡ kind_of next.1
    → ListsNodes left_out (nodes ++ next ∷ []) (entries ++ entry ∷ [])
entries_more left_out nodes entries next entry lists counts place kind = record {
  held = λ x c. elim (Contains-push_cases entries entry x c) [
    | inl d ↦ let is = lists.held x d in (is.0, more_listed left_out nodes next (string_bytes x.place) is.0 is.1, is.2)
    | inr e ↦ (
      next.1,
      record {
        there = subst (λ p. Contains (nodes ++ next ∷ []) (p, next.1)) (sym place ∙ ap (λ (y : Entry). string_bytes y.place) e) (Contains-push nodes next);
        counts = subst (λ p. ¬ IsLeftOut left_out p) (sym place ∙ ap (λ (y : Entry). string_bytes y.place) e) counts;
      },
      sym kind ∙ ap (λ (y : Entry). y.kind) e,
    )
  ];
  all = λ p node h.
      subst (λ xs. Contains xs (p, kind_of node)) (sym (map_push entry_data entries entry))
      (elim (Contains-push_cases nodes next (p, node) h.there) [
        | inl c ↦ Contains-append_left (map entry_data entries) (entry_data entry ∷ []) (p, kind_of node) (lists.all p node (record { there = c; counts = h.counts }))
        | inr e ↦ subst (λ (n : List ℕ × Node). Contains (map entry_data entries ++ entry_data entry ∷ []) (n.0, kind_of n.1)) e
            (subst (λ k. Contains (map entry_data entries ++ entry_data entry ∷ []) (next.0, k)) kind
            (subst (λ q. Contains (map entry_data entries ++ entry_data entry ∷ []) (q, entry.kind)) place
            (Contains-push (map entry_data entries) (entry_data entry))))
      ]);
}

-- a folder stays one where a node is put at a free place
pub folder_more : (nodes : Nodes) (next : List ℕ × Node) → IsFolder nodes → IsFree nodes next.0 → IsFolder (nodes ++ next ∷ [])
folder_more nodes next folder free place top node above c d within = elim (Contains-push_cases nodes next (place, node) c) [
  | inl c' ↦ elim (Contains-push_cases nodes next (top, above) d) [
    | inl d' ↦ folder place top node above c' d' within
    | inr e ↦ absurd ((free.apart place node c').1 (subst (λ p. IsWithin place p) (sym (ap (λ (n : List ℕ × Node). n.0) e)) within))
  ]
  | inr e ↦ elim (Contains-push_cases nodes next (top, above) d) [
    | inl d' ↦ absurd ((free.apart top above d').0 (subst (λ p. IsWithin p top) (sym (ap (λ (n : List ℕ × Node). n.0) e)) within))
    | inr f ↦ (
      sym (ap (λ (n : List ℕ × Node). n.0) e) ∙ ap (λ (n : List ℕ × Node). n.0) f,
      sym (ap (λ (n : List ℕ × Node). n.1) e) ∙ ap (λ (n : List ℕ × Node). n.1) f,
    )
  ]
]

-- a folder of which nodes were taken is one
pub folder_less : (nodes some : Nodes) → ((n : List ℕ × Node) → Contains some n → Contains nodes n) → IsFolder nodes → IsFolder some
folder_less nodes some into folder place top node above c d within =
    folder place top node above (into (place, node) c) (into (top, above) d) within

-- ## What is left out

pub left_out_from_any : (tops : List (Bor (List ℕ))) (place : List ℕ) → Any (λ (t : Bor (List ℕ)). IsWithin place t.now) tops → IsLeftOut (texts_now tops) place
left_out_from_any tops place h =
    (h.1.now, to_map (λ (t : Bor (List ℕ)). t.now) tops h.1 (h.0, h.2, h.3), h.4)

pub any_from_left_out : (tops : List (Bor (List ℕ))) (place : List ℕ) → IsLeftOut (texts_now tops) place → Any (λ (t : Bor (List ℕ)). IsWithin place t.now) tops
any_from_left_out tops place h =
    let from = from_map (λ (t : Bor (List ℕ)). t.now) tops h.0 h.1 in
    (from.1.0, from.0, from.1.1, from.1.2, subst (IsWithin place) (sym from.2) h.2)
