-- What is known of the small networks, found by computing. Assumes nothing.
use Rattle.std.proofs.Common.{[], ◌∷◌}
use Rattle.vocabulary.specs.declared.model_kind.ModelKind.TheVariants as kind
use Rattle.rules.specs.Sets.{has, tally}
use Rattle.rules.specs.Worked.{star, prism, two_rows, path, all_five, all_six, Lawful, WorkedFacts}
use Rattle.rules.proofs.Computing.{every, belongs, pairs_with, pairs_above, pairs_before, lawful, are_group, are_no_group, no_group, apart_from, stand_apart}

pub worked_facts : WorkedFacts
unfolding has tally every belongs pairs_with pairs_above pairs_before
worked_facts =
    let S : Lawful star = lawful star tt tt in
    let P : Lawful prism = lawful prism tt tt in
    let R : Lawful two_rows = lawful two_rows tt tt in
    let Q : Lawful path = lawful path tt tt in
    record {
      star_lawful = S;
      prism_lawful = P;
      two_rows_lawful = R;
      path_lawful = Q;
      star_plain = are_group star kind.Plain 0 S all_five tt tt tt tt;
      star_no_vertex_triangle = no_group star kind.VertexTriangle 0 S tt tt;
      prism_vertex_triangle = are_group prism kind.VertexTriangle 0 P all_six tt tt tt tt;
      prism_not_edge_triangle = are_no_group prism kind.EdgeTriangle 0 P all_six tt tt tt tt;
      prism_side_edge_triangle = are_group prism kind.EdgeTriangle 0 P (1 ∷ 2 ∷ 3 ∷ []) tt tt tt tt;
      prism_side_robust_2 = are_group prism kind.Robust 2 P (1 ∷ 2 ∷ 3 ∷ []) tt tt tt tt;
      prism_side_not_robust_3 = are_no_group prism kind.Robust 3 P (1 ∷ 2 ∷ 3 ∷ []) tt tt tt tt;
      two_rows_hereditary_2 = are_group two_rows kind.Hereditary 2 R all_six tt tt tt tt;
      two_rows_not_hereditary_3 = are_no_group two_rows kind.Hereditary 3 R all_six tt tt tt tt;
      two_rows_not_robust_2 = are_no_group two_rows kind.Robust 2 R all_six tt tt tt tt;
      path_ends_apart = stand_apart path kind.Plain 0 Q (1 ∷ 3 ∷ []) 1 3 tt (λ members. apart_from _ _ _ _ members 1 3 tt tt tt tt);
    }
