use Rattle.any_model.proofs.any_model.AnyModel.new.Goals as goal

pub returns-in_ok-new-in-Plain : goal.returns-in_ok-new-in-Plain
returns-in_ok-new-in-Plain c = rw c.in-Plain.is c.in_ok-new-in-Plain.ensures

pub returns-in_ok-new-in-Robust : goal.returns-in_ok-new-in-Robust
returns-in_ok-new-in-Robust c = rw c.in-Robust.is c.in_ok-new-in-Robust.ensures

pub returns-in_ok-new-in-Hereditary : goal.returns-in_ok-new-in-Hereditary
returns-in_ok-new-in-Hereditary c = rw c.in-Hereditary.is c.in_ok-new-in-Hereditary.ensures

pub returns-in_ok-new-in-VertexTriangle : goal.returns-in_ok-new-in-VertexTriangle
returns-in_ok-new-in-VertexTriangle c = rw c.in-VertexTriangle.is c.in_ok-new-in-VertexTriangle.ensures

pub returns-in_ok-new-in-EdgeTriangle : goal.returns-in_ok-new-in-EdgeTriangle
returns-in_ok-new-in-EdgeTriangle c = rw c.in-EdgeTriangle.is c.in_ok-new-in-EdgeTriangle.ensures
