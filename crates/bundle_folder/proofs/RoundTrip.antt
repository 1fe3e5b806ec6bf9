-- Packing and unpacking undo each other, and a folder has one text.
use Rattle.std.proofs.Common.{◌≡◌, ◌↔◌, ℕ, List, [], refl, ap, sym, subst, ◌∙◌}
use Rattle.std.specs.Prelude.{Contains, Some, Option}
use Rattle.std.proofs.lemmas.Option.{same_Some}
use Rattle.bx_tree.specs.Bundle.{bundle}
use Rattle.bx_tree.specs.Paths.{Atoms, path_text}
use Rattle.bx_tree.specs.Trees.{Files, IsTree}
use Rattle.bx_tree.proofs.OneReading as readings
use Rattle.bx_tree.proofs.PathTexts.{same_from_text}
use Rattle.bundle_folder.specs.Folders.{File, Known, Node, Nodes, IsListed, nodes_of}
use Rattle.bundle_folder.specs.Packing.{AreFilesOf, IsPack}
use Rattle.bundle_folder.specs.Unpacking.{IsUnpack}
use Rattle.bundle_folder.specs.declared.unpacking.Replace.TheVariants as replaces
use Rattle.bundle_folder.proofs.Free.{from_map, to_map, tree_path}
use Rattle.bundle_folder.proofs.OneTree.{no_member, one_tree}

file_bytes : (a b : List ℕ) → File a ≡ File b → a ≡ b
file_bytes a b e = cc

-- of two trees of the files of a folder, the second has each file of the first
same_files : (left_out : List (List ℕ)) (nodes : Nodes) (xs ys : Files) → IsTree xs → IsTree ys → AreFilesOf left_out nodes xs
    → AreFilesOf left_out nodes ys → (q : Atoms × List ℕ) → Contains xs q → Contains ys q
same_files left_out nodes xs ys s t a b q c =
    let f = b.all (path_text q.0) (File q.1) (a.held q.0 q.1 c) in
    let mine = tree_path xs q.0 s (to_map (λ (g : Atoms × List ℕ). g.0) xs q c) in
    let other = tree_path ys f.0 t (to_map (λ (g : Atoms × List ℕ). g.0) ys (f.0, f.1) f.4) in
    let path = same_from_text f.0 q.0 other.0 mine.0 f.2 in
    let bytes = file_bytes f.1 q.1 f.3 in
    subst (λ p. Contains ys (p, q.1)) path (subst (λ x. Contains ys (f.0, x)) bytes f.4)

pub one_text : (left_out : List (List ℕ)) (nodes : Nodes) (one other : List ℕ)
    → IsPack left_out (Some nodes) one → IsPack left_out (Some nodes) other → one ≡ other
one_text left_out nodes one other h k =
    let a = h.2 nodes refl in
    let b = k.2 nodes refl in
    let trees = one_tree h.0 k.0 h.1.tree k.1.tree
    (same_files left_out nodes h.0 k.0 h.1.tree k.1.tree a b) (same_files left_out nodes k.0 h.0 k.1.tree h.1.tree b a) in
    h.1.text_is ∙ ap bundle trees ∙ sym k.1.text_is

-- files that were made are the files of the folder
files_made : (files : Files) → AreFilesOf [] (nodes_of files) files
files_made files = record {
  held = λ path bytes c. record {
    there = to_map (λ (f : Atoms × List ℕ). (path_text f.0, File f.1)) files (path, bytes) c;
    counts = λ out. no_member out.0 out.1;
  };
  all = λ place node h.
      let f = from_map (λ (f : Atoms × List ℕ). (path_text f.0, File f.1)) files (place, node) h.there in
      (f.0.0, f.0.1, ap (λ (n : List ℕ × Node). n.0) f.2, ap (λ (n : List ℕ × Node). n.1) f.2, f.1);
}

pub pack_of_unpack : (now : Option Nodes) (text : List ℕ) (count : ℕ)
    → IsUnpack text replaces.Nothing (Some []) now count → IsPack [] now text
pack_of_unpack now text count h = (
  h.0,
  h.1,
  λ nodes e. subst (λ n. AreFilesOf [] n h.0) (same_Some (nodes_of h.0) nodes (sym h.3 ∙ e)) (files_made h.0),
)

pub unpack_of_pack : (left_out : List (List ℕ)) (nodes : Nodes) (now : Option Nodes) (text : List ℕ) (count : ℕ)
    → IsPack left_out (Some nodes) text → IsUnpack text replaces.Nothing (Some []) now count
    → Known now (λ made. (place : List ℕ) (node : Node) → Contains made (place, node) ↔ IsListed left_out nodes place node)
unpack_of_pack left_out nodes now text count h k made e place node =
    let files = h.0 in
    let same : nodes_of files ≡ made =
    ap nodes_of (readings.one_tree text h.0 k.0 h.1 k.1) ∙ same_Some (nodes_of k.0) made (sym k.3 ∙ e) in
    let a = h.2 nodes refl in (
      λ c.
          let f = from_map (λ (g : Atoms × List ℕ). (path_text g.0, File g.1)) files (place, node) (subst (λ n. Contains n (place, node)) (sym same) c) in
          subst (λ (n : List ℕ × Node). IsListed left_out nodes n.0 n.1) f.2 (a.held f.0.0 f.0.1 f.1),
      λ s.
          let f = a.all place node s in
          subst (λ n. Contains n (place, node)) same
          (subst (λ n. Contains (nodes_of files) (place, n)) f.3
          (subst (λ p. Contains (nodes_of files) (p, File f.1)) f.2
          (to_map (λ (g : Atoms × List ℕ). (path_text g.0, File g.1)) files (f.0, f.1) f.4))),
    )
