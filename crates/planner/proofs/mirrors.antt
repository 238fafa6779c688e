-- Laws of the residues of a row's mirrors.
pub mod MirrorResidues
