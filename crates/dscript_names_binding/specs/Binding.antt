-- Binding: from syntax trees to trees in which each name is resolved.
use Rattle.std.specs.Prelude.{ℕ, Bool, true, false, List, [], ◌∷◌, ◌++◌, drop, Option, Some, None, Ok}
use Rattle.dscript_ast.specs.ExprTree as tree
use Rattle.dscript_ast.specs.ExprTree.{ParamTree, HeadTree, ExprTree, OperandTree, PartTree, ElementTree}
use Rattle.dscript_ast.specs.ExprTree.{PropTree, HoleTree, StmtTree, MaybeExpr, MaybeStmt, ExprTrees}
use Rattle.dscript_ast.specs.ExprTree.{OperandTrees, PartTrees, ElementTrees, PropTrees, HoleTrees, StmtTrees}
use Rattle.dscript_ast.specs.FileTree as file
use Rattle.dscript_ast.specs.FileTree.{MarkedTree, DeclTree, MarkedTrees, ImportTree, ItemTree, Marked}
use Rattle.dscript_ast.specs.declared.expr.LoopKind.{LoopKind}
use Rattle.dscript_ast.specs.declared.expr.LoopKind.TheVariants as loops
use Rattle.dscript_ast.specs.declared.file.Mark.{Mark}
use Rattle.dscript_program.specs.BoundTree as bound
use Rattle.dscript_program.specs.BoundTree.{ExprData, OperandData, PartData, ElementData, PropData, HoleData}
use Rattle.dscript_program.specs.BoundTree.{StmtData, MaybeStmt as MaybeBound, BodyData, to_exprs}
use Rattle.dscript_program.specs.BoundTree.{to_operands, to_parts, to_elements, to_props, to_holes, to_stmts}
use Rattle.dscript_program.specs.ProgramData as declares
use Rattle.dscript_program.specs.ProgramData.{Dotted, KindData, DeclData}
use Rattle.dscript_program.specs.declared.target.Target.{Target}
use Rattle.dscript_program.specs.declared.target.Target.TheVariants as targets
use Rattle.dscript_program.specs.declared.spec_fault.SpecKind.{SpecKind}
use Rattle.std.specs.Option.{option_or}
use Rattle.dscript_names_scopes.specs.Names.{World, FileNames}
use Rattle.dscript_names_scopes.specs.declared.found.Found.{Found}
use Rattle.dscript_names_scopes.specs.declared.local.Local.{Local}
use Rattle.dscript_names_scopes.specs.Blocks.{block_locals, stmt_locals}
use Rattle.dscript_names_scopes.specs.Lookup.{Site, found_at, assigned, import_fault, unknown_module_fault}
use Rattle.dscript_names_binding.specs.Walk.{Binds, ◌>>=◌, gives, in_turn, or_fault, no_fault, next_local, declare}
use Rattle.dscript_names_binding.specs.Walk.{within, function_in, declaration}
use Rattle.dscript_ast.specs.Literals.{name_of}

-- ## What a loop and a function declare

-- the variable of a loop, which may be assigned where it is declared by `let`
abbrev pub is_let : LoopKind → Bool
is_let loops.Const = false
is_let loops.Let = true

abbrev pub loop_local : LoopKind → List ℕ → ℕ → List Local
loop_local kind x n = record { name = x; is_let = is_let kind; number = Some n } ∷ []

abbrev pub params_of : HeadTree → List ParamTree
params_of (tree.Single x) = record { name = x; optional = false; type_node = None } ∷ []
params_of (tree.Params ps) = ps

-- ## Names

abbrev pub local_named : Target → List ℕ
local_named (targets.Local n) = n ∷ []
local_named _ = []

abbrev pub names_target : Found → Binds Found
names_target f here = Ok (record { value = f; after = here; functions = []; names = local_named f.target })

-- the target of the name with the parts after it
abbrev pub bind_name : World → Site → List ℕ → PartTrees → Binds Found
bind_name world site x parts here = (or_fault (found_at world site here.blocks x parts) >>= names_target) here

abbrev pub assigns : List ℕ → Binds ℕ
assigns x here = or_fault (assigned here.blocks x) here

-- an expression with the parts after it, if any
abbrev pub with_parts : ExprData → List PartData → ExprData
with_parts e [] = e
with_parts e (part ∷ parts) = bound.Postfix e (to_parts (part ∷ parts))

-- A name, or another expression, with its parts. Those that belong to a dotted name are left out.
abbrev pub postfix : World → Site → Option (List ℕ) → Binds ExprData → PartTrees → List (Binds PartData)
    → Binds ExprData
postfix world site (Some x) e parts binders =
    bind_name world site x parts >>= λ f. in_turn (drop f.parts binders) >>= λ ps.
    gives (with_parts (bound.Name f.target) ps)
postfix world site None e parts binders = e >>= λ b. in_turn binders >>= λ ps. gives (with_parts b ps)

-- ## Expressions and statements

module _ (world : World) (site : Site) where
  -- the number of a function with these parameters and this body
  abbrev pub arrow : HeadTree → List Local → Binds BodyData → Binds ExprData
  arrow head locals body =
      function_in site.number (params_of head) locals body >>= λ n. gives (bound.Arrow n)

  unfoldable mutual
    pub bind_expr : ExprTree → Binds ExprData
    bind_expr (tree.Arrow head e) = arrow head [] (bind_expr e >>= λ b. gives (bound.Expr b))
    bind_expr (tree.BlockArrow head ss) =
        arrow head (block_locals ss) (in_turn (bind_stmts ss) >>= λ bs. gives (bound.Stmts bs))
    bind_expr (tree.Cond c a b) =
        bind_expr c >>= λ x. bind_expr a >>= λ y. bind_expr b >>= λ z. gives (bound.Cond x y z)
    bind_expr (tree.Chain level e more) =
        bind_expr e >>= λ x. in_turn (bind_operands more) >>= λ xs. gives (bound.Chain x (to_operands xs))
    bind_expr (tree.Unary ops e) = bind_expr e >>= λ x. gives (bound.Unary ops x)
    bind_expr (tree.Postfix e parts) = postfix world site (name_of e) (bind_expr e) parts (bind_parts parts)
    bind_expr (tree.Number n) = gives (bound.Number n)
    bind_expr (tree.Str s) = gives (bound.Str s)
    bind_expr tree.True = gives bound.True
    bind_expr tree.False = gives bound.False
    bind_expr tree.Undefined = gives bound.Undefined
    bind_expr (tree.Template text holes) =
        in_turn (bind_holes holes) >>= λ hs. gives (bound.Template text (to_holes hs))
    bind_expr (tree.Path kind text holes) =
        in_turn (bind_holes holes) >>= λ hs. gives (bound.Path kind text (to_holes hs))
    bind_expr (tree.Name x) = bind_name world site x tree.no_parts >>= λ f. gives (bound.Name f.target)
    bind_expr (tree.Elements es) =
        in_turn (bind_elements es) >>= λ xs. gives (bound.Elements (to_elements xs))
    bind_expr (tree.Object ps) = in_turn (bind_props ps) >>= λ xs. gives (bound.Object (to_props xs))

    pub bind_operand : OperandTree → Binds OperandData
    bind_operand (tree.Operand op e) = bind_expr e >>= λ x. gives (bound.Operand op x)

    pub bind_part : PartTree → Binds PartData
    bind_part (tree.Member x) = gives (bound.Member x)
    bind_part (tree.Index e) = bind_expr e >>= λ x. gives (bound.Index x)
    bind_part (tree.Call es) = in_turn (bind_exprs es) >>= λ xs. gives (bound.Call (to_exprs xs))

    pub bind_element : ElementTree → Binds ElementData
    bind_element (tree.Element spread e) = bind_expr e >>= λ x. gives (bound.Element spread x)

    pub bind_prop : PropTree → Binds PropData
    bind_prop (tree.Named x e) = bind_expr e >>= λ b. gives (bound.Named x b)
    bind_prop (tree.Quoted s e) = bind_expr e >>= λ b. gives (bound.Quoted s b)
    bind_prop (tree.Short x) = bind_name world site x tree.no_parts >>= λ f. gives (bound.Short x f.target)
    bind_prop (tree.Spread e) = bind_expr e >>= λ b. gives (bound.Spread b)

    pub bind_hole : HoleTree → Binds HoleData
    bind_hole (tree.Hole e text) = bind_expr e >>= λ x. gives (bound.Hole x text)

    -- a local has its number before its value, and is known after it
    pub bind_stmt : StmtTree → Binds StmtData
    bind_stmt (tree.Const x t e) =
        next_local >>= λ n. bind_expr e >>= λ b. declare x n >>= λ m. gives (bound.Const n t b)
    bind_stmt (tree.Let x t e) =
        next_local >>= λ n. bind_maybe e >>= λ b. declare x n >>= λ m. gives (bound.Let n t b)
    bind_stmt (tree.Assign x e) = assigns x >>= λ n. bind_expr e >>= λ b. gives (bound.Assign n b)
    bind_stmt (tree.If c s other) =
        bind_expr c >>= λ x. within (stmt_locals s) (bind_stmt s) >>= λ y. bind_else other >>= λ z.
        gives (bound.If x y z)
    bind_stmt (tree.For kind x list s) =
        next_local >>= λ n. bind_expr list >>= λ l.
        within (loop_local kind x n) (within (stmt_locals s) (bind_stmt s)) >>= λ b. gives (bound.For kind n l b)
    bind_stmt (tree.Return e) = bind_maybe e >>= λ b. gives (bound.Return b)
    bind_stmt (tree.Value e) = bind_expr e >>= λ b. gives (bound.Value b)
    bind_stmt (tree.Block ss) =
        within (block_locals ss) (in_turn (bind_stmts ss)) >>= λ bs. gives (bound.Block (to_stmts bs))
    bind_stmt tree.Empty = gives bound.Empty

    pub bind_maybe : MaybeExpr → Binds (Option ExprData)
    bind_maybe tree.no_expr = gives None
    bind_maybe (tree.an_expr e) = bind_expr e >>= λ b. gives (Some b)

    pub bind_else : MaybeStmt → Binds MaybeBound
    bind_else tree.no_stmt = gives bound.no_stmt
    bind_else (tree.a_stmt s) = within (stmt_locals s) (bind_stmt s) >>= λ b. gives (bound.a_stmt b)

    -- the parts of a list, each by itself
    pub bind_exprs : ExprTrees → List (Binds ExprData)
    bind_exprs tree.no_exprs = []
    bind_exprs (tree.more_exprs e more) = bind_expr e ∷ bind_exprs more

    pub bind_operands : OperandTrees → List (Binds OperandData)
    bind_operands tree.no_operands = []
    bind_operands (tree.more_operands o more) = bind_operand o ∷ bind_operands more

    pub bind_parts : PartTrees → List (Binds PartData)
    bind_parts tree.no_parts = []
    bind_parts (tree.more_parts part more) = bind_part part ∷ bind_parts more

    pub bind_elements : ElementTrees → List (Binds ElementData)
    bind_elements tree.no_elements = []
    bind_elements (tree.more_elements e more) = bind_element e ∷ bind_elements more

    pub bind_props : PropTrees → List (Binds PropData)
    bind_props tree.no_props = []
    bind_props (tree.more_props prop more) = bind_prop prop ∷ bind_props more

    pub bind_holes : HoleTrees → List (Binds HoleData)
    bind_holes tree.no_holes = []
    bind_holes (tree.more_holes hole more) = bind_hole hole ∷ bind_holes more

    pub bind_stmts : StmtTrees → List (Binds StmtData)
    bind_stmts tree.no_stmts = []
    bind_stmts (tree.more_stmts s ss) = bind_stmt s ∷ bind_stmts ss

-- ## Declarations

-- the number of a declared function
abbrev pub declared_function : World → Site → List ParamTree → List StmtTree → Binds ℕ
declared_function world site params ss =
    function_in site.number params (block_locals (tree.to_stmts ss))
    (in_turn (bind_stmts world site (tree.to_stmts ss)) >>= λ bs. gives (bound.Stmts bs))

-- the bound declaration of this name in these namespaces
abbrev pub named_decl : Dotted → Mark → List ℕ → KindData → Binds (List DeclData)
named_decl around mark x kind = gives (record { name = around ++ x ∷ []; mark = mark; kind = kind } ∷ [])

-- the first fault of an import: of its names in braces, or of its module
abbrev pub imports_fault : World → List ImportTree → List ℕ → Option SpecKind
imports_fault world [] module_name = unknown_module_fault world module_name
imports_fault world (i ∷ more) module_name =
    option_or (import_fault world module_name i.name) (imports_fault world more module_name)

module _ (world : World) (number : ℕ) (names : FileNames) where
  abbrev pub site_in : Dotted → Site
  site_in around = record { number = number; file = names; around = around }

  unfoldable mutual
    pub bind_marked : Dotted → MarkedTree → Binds (List DeclData)
    bind_marked around (Marked mark decl) = bind_decl around mark decl

    pub bind_decl : Dotted → Mark → DeclTree → Binds (List DeclData)
    bind_decl around mark (file.Const x t e) =
        declaration (bind_expr world (site_in around) e) >>= λ b.
        named_decl around mark x (declares.Const t b)
    bind_decl around mark (file.Function x ts ps t ss) =
        declaration (declared_function world (site_in around) ps ss) >>= λ n.
        named_decl around mark x (declares.Function ts t n)
    bind_decl around mark (file.Namespace names ms) = bind_all_marked (around ++ names) ms
    bind_decl around mark (file.Interface x ts es ms) =
        named_decl around mark x (declares.Interface ts es ms)
    bind_decl around mark (file.TypeAlias x ts t) =
        named_decl around mark x (declares.TypeAlias ts t)

    pub bind_all_marked : Dotted → MarkedTrees → Binds (List DeclData)
    bind_all_marked around file.no_marked = gives []
    bind_all_marked around (file.more_marked m ms) =
        bind_marked around m >>= λ ds. bind_all_marked around ms >>= λ es. gives (ds ++ es)

  -- ## Items

  -- an import of a module that is there, and of names in braces that stand for something, used or not
  abbrev pub check_import : List ImportTree → List ℕ → Binds (List DeclData)
  check_import imported module_name = no_fault (imports_fault world imported module_name) >>= λ x. gives []

  abbrev pub bind_item : ItemTree → Binds (List DeclData)
  bind_item (file.ImportAll x module_name) = check_import [] module_name
  bind_item (file.ImportNames imported module_name) = check_import imported module_name
  bind_item (file.Declared m) = bind_marked [] m
  bind_item file.Empty = gives []

  -- the declarations of a file
  abbrev pub bind_items : List ItemTree → Binds (List DeclData)
  bind_items [] = gives []
  bind_items (item ∷ items) = bind_item item >>= λ ds. bind_items items >>= λ es. gives (ds ++ es)
