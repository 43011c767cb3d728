mod Fronts
mod Shapes
mod Standing
mod OneRequests
mod WebLaws
