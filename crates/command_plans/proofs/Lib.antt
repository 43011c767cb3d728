mod Faults
mod GivenAreas
mod Settings
mod Asked
mod SessionEffects
